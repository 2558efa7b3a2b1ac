-- `any_unread`: no line before this place is an opening or malformed. Assumes nothing.
use mathlib.Core.Path.{sym, ◌∙◌}
use Rattle.need_lines.proofs.Cut.{searching-met, searching-next, searching-end}
use Rattle.need_lines.proofs.any_unread.Goals as goal

pub returns-then-is_unread : goal.returns-then-is_unread
returns-then-is_unread c = searching-met _ _ c.loop-at.invariant c.loop-at-test.true _ c.line_end-end.ensures.0 (sym c.is_unread.ensures ∙ c.if-is_unread.true)

pub loop-at-preserved : goal.loop-at-preserved
loop-at-preserved c = searching-next _ _ c.loop-at.invariant c.loop-at-test.true _ c.line_end-end.ensures.0 _ c.next_line-at.ensures.0 (sym c.is_unread.ensures ∙ c.if-is_unread.false)

pub returns : goal.returns
returns c = searching-end _ _ c.loop-at.invariant c.loop-at-test.false
