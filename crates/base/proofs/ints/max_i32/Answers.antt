-- `max_i32`: the test is the definition's. Assumes nothing.
use mir.Facts.{to_z-of_z}
use Rattle.base.specs.Ints.{max_z}
use Rattle.base.proofs.Back.{lt_z-back}
use Rattle.base.proofs.ints.max_i32.Goals as goal

pub returns-then-a-b : goal.returns-then-a-b
unfolding max_z
returns-then-a-b c = rw (to_z-of_z c.ranges.b, lt_z-back c.ranges.a c.ranges.b c.if-a-b.true)

pub returns-else-a-b : goal.returns-else-a-b
unfolding max_z
returns-else-a-b c = rw (to_z-of_z c.ranges.a, lt_z-back c.ranges.a c.ranges.b c.if-a-b.false)
