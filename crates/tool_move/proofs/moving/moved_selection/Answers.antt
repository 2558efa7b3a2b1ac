-- `moved_selection`: the old one, or `translated`. Assumes nothing.
use mathlib.Core.Path.{◌≡◌, sym, ◌∙◌}
use mir.Facts.{to_z-of_z}
use Rattle.tool_paste_model.specs.Moves.{unmoved}
use Rattle.tool_paste_model.proofs.MoveAnswers.{selection-still, selection-moved}
use borrow.Author.Rules.{rules}
use Rattle.tool_move.proofs.moving.moved_selection.Goals as goal
use Rattle.tool_move.proofs.moving.moved_selection.Goals.{After-is_unmoved}

still : (c : After-is_unmoved) → c.is_unmoved.result ≡ unmoved c.args.dx c.args.dy
still c = rw (to_z-of_z c.ranges.dx, to_z-of_z c.ranges.dy) at c.is_unmoved.ensures

pub returns-then-is_unmoved : goal.returns-then-is_unmoved
returns-then-is_unmoved c = selection-still _ _ _ _ _ (sym (still (goal.at.returns-then-is_unmoved c).After-is_unmoved) ∙ c.if-is_unmoved.true)

pub returns : goal.returns
returns c = selection-moved _ _ _ _ _ (sym (still (goal.at.returns c).After-is_unmoved) ∙ c.if-is_unmoved.false) c.requires (rw (to_z-of_z c.ranges.dx, to_z-of_z c.ranges.dy) at c.translated.ensures)
