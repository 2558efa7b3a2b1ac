-- `move_selection_in`: its checks; then the list, left in the scratch, and the selection. Assumes nothing.
use mathlib.Core.Path.{◌≡◌, sym, ◌∙◌}
use lib.ListN.{length}
use mir.Facts.{to_z-of_z}
use Rattle.base.specs.Checks.{first_of}
use Rattle.sheet.specs.Sheet.{sheet_of}
use Rattle.tool_paste_model.proofs.Answers.{shifted_in}
use Rattle.tool_paste_model.specs.Moves.{move_checks}
use Rattle.change_list.proofs.Fronts.{front-within}
use Rattle.tool_paste_model.proofs.MoveAnswers.{move-movable, move-shiftable, move-refused, move-done}
use Rattle.change_list.proofs.InScratch.{scratch-none}
use borrow.Author.Rules.{rules}
use Rattle.tool_move.proofs.moving.move_selection_in.Goals as goal
use Rattle.tool_move.proofs.moving.move_selection_in.Goals.{After-move_no-no}

number : (c : After-move_no-no) → c.move_no-no.result ≡ first_of (move_checks (sheet_of c.args.w c.args.h c.args.k c.args.palette.now c.args.lab.now c.args.indices.now) c.args.s c.args.dx c.args.dy (length c.args.scratch.now))
number c = rw (to_z-of_z c.ranges.dx, to_z-of_z c.ranges.dy) at c.move_no-no.ensures

pub returns-then-no-ne0 : goal.returns-then-no-ne0
returns-then-no-ne0 c = record { fact = scratch-none (λ out e. move-refused _ _ _ _ _ out (number (goal.at.returns-then-no-ne0 c).After-move_no-no) c.if-no-ne0.true); scratch_after = search rules }

pub list_moved-n-requires : goal.list_moved-n-requires
list_moved-n-requires c = rw (to_z-of_z c.ranges.dx, to_z-of_z c.ranges.dy) (move-movable _ _ _ _ _ (sym (number (goal.at.list_moved-n-requires c).After-move_no-no) ∙ c.if-no-ne0.false))

pub moved_selection-requires : goal.moved_selection-requires
moved_selection-requires c = rw (to_z-of_z c.ranges.dx, to_z-of_z c.ranges.dy) (move-shiftable _ _ _ _ _ (sym (number (goal.at.moved_selection-requires c).After-move_no-no) ∙ c.if-no-ne0.false))

pub returns : goal.returns
returns c =
    let f = rw (to_z-of_z c.ranges.dx, to_z-of_z c.ranges.dy) at c.list_moved-n.ensures in
    let sel = rw (to_z-of_z c.ranges.dx, to_z-of_z c.ranges.dy) at c.moved_selection.ensures in
    record { fact = shifted_in _ (c.counted.ensures _ (front-within f)) c.shifted_of.ensures (λ out after d. move-done _ _ _ _ _ out (sym (number (goal.at.returns c).After-move_no-no) ∙ c.if-no-ne0.false) f d sel c.shifted_of.ensures); scratch_after = search rules }
