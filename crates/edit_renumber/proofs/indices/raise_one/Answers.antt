-- `raise_one`: by the test. Assumes nothing.
use Rattle.edit_renumber.proofs.Steps.{raise-fits, raise-is, raise-not}
use Rattle.edit_renumber.proofs.indices.raise_one.Goals as goal

pub overflow_add-result : goal.overflow_add-result
overflow_add-result c = raise-fits c.ranges.bound c.ranges.z c.requires

pub returns-then-bound-z : goal.returns-then-bound-z
returns-then-bound-z c = raise-is c.ranges.bound c.ranges.z c.requires c.if-bound-z.true

pub returns-else-bound-z : goal.returns-else-bound-z
returns-else-bound-z c = raise-not c.ranges.bound c.ranges.z c.if-bound-z.false
