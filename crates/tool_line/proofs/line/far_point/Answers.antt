-- `far_point`: either of the two. Assumes nothing.
use borrow.Author.Rules.{rules}
use Rattle.base.specs.Ints.{far}
use Rattle.base.proofs.Back.{by_value}
use Rattle.tool_line.specs.Line.{far_point}
use Rattle.tool_line.proofs.line.far_point.Goals as goal

pub returns-then-is_far : goal.returns-then-is_far
unfolding far_point
returns-then-is_far c = rw (← by_value far c.ranges.x c.is_far.ensures, c.if-is_far.true)

pub returns-else-is_far : goal.returns-else-is_far
unfolding far_point
returns-else-is_far c = rw (← by_value far c.ranges.x c.is_far.ensures, c.if-is_far.false) (by_value far c.ranges.y c.is_far-else-is_far.ensures)
