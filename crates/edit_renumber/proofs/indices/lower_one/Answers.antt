-- `lower_one`: by the test. Assumes nothing.
use Rattle.edit_renumber.proofs.Steps.{lower-fits, lower-is, lower-not}
use Rattle.edit_renumber.proofs.indices.lower_one.Goals as goal

pub overflow_sub-result : goal.overflow_sub-result
overflow_sub-result c = lower-fits c.ranges.bound c.ranges.z c.if-bound-z.true

pub returns-then-bound-z : goal.returns-then-bound-z
returns-then-bound-z c = lower-is c.ranges.bound c.ranges.z c.if-bound-z.true

pub returns-else-bound-z : goal.returns-else-bound-z
returns-else-bound-z c = lower-not c.ranges.bound c.ranges.z c.if-bound-z.false
