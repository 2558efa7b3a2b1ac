-- `half`: one less where the line goes up. Assumes nothing.
use mathlib.Core.Path.{◌∙◌}
use borrow.Author.Rules.{rules}
use Rattle.base.proofs.Back.{lt_z-back}
use Rattle.tool_line.specs.Walk.{half}
use Rattle.tool_line.proofs.along.half.Goals as goal

pub returns-then-a-b : goal.returns-then-a-b
unfolding half
returns-then-a-b c = let s = c.before.before in rw (lt_z-back s.ranges.a s.ranges.b c.if-a-b.true) c.saturating_sub.ensures

pub returns-else-a-b : goal.returns-else-a-b
unfolding half
returns-else-a-b c = rw (lt_z-back c.ranges.a c.ranges.b c.if-a-b.false)
