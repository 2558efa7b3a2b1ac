-- `direction`: the test is the definition's. Assumes nothing.
use Rattle.base.proofs.Back.{lt_z-back}
use Rattle.tool_line.specs.Walk.{direction}
use Rattle.tool_line.proofs.along.direction.Goals as goal

pub returns-then-b-a : goal.returns-then-b-a
unfolding direction
returns-then-b-a c = rw (lt_z-back c.ranges.b c.ranges.a c.if-b-a.true)

pub returns-else-b-a : goal.returns-else-b-a
unfolding direction
returns-else-b-a c = rw (lt_z-back c.ranges.b c.ranges.a c.if-b-a.false)
