-- `min_i32`: the test is the definition's. Assumes nothing.
use mir.Facts.{to_z-of_z}
use Rattle.base.specs.Ints.{min_z}
use Rattle.base.proofs.Back.{lt_z-back}
use Rattle.base.proofs.ints.min_i32.Goals as goal

pub returns-then-b-a : goal.returns-then-b-a
unfolding min_z
returns-then-b-a c = rw (to_z-of_z c.ranges.b, lt_z-back c.ranges.b c.ranges.a c.if-b-a.true)

pub returns-else-b-a : goal.returns-else-b-a
unfolding min_z
returns-else-b-a c = rw (to_z-of_z c.ranges.a, lt_z-back c.ranges.b c.ranges.a c.if-b-a.false)
