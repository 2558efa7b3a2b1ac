-- `move_no`: test by test. Assumes nothing.
use mathlib.Core.Path.{◌≡◌, sym, ◌∙◌}
use Rattle.base.specs.Checks.{first_of}
use mir.Facts.{to_z-of_z}
use Rattle.selection.specs.Calls.{shift_checks}
use Rattle.tool_paste_model.proofs.MoveAnswers.{move-sheet, move-shift, move-short, move-none}
use borrow.Author.Rules.{rules}
use Rattle.tool_move.proofs.moving.move_no.Goals as goal
use Rattle.tool_move.proofs.moving.move_no.Goals.{After-shift_no-far}

shift : (c : After-shift_no-far) → c.shift_no-far.result ≡ first_of (shift_checks c.args.s c.args.dx c.args.dy c.args.w c.args.h)
shift c = rw (to_z-of_z c.ranges.dx, to_z-of_z c.ranges.dy) at c.shift_no-far.ensures

pub returns-then-no-ne0 : goal.returns-then-no-ne0
returns-then-no-ne0 c = move-sheet _ _ _ _ _ c.check-no.ensures c.if-no-ne0.true

pub returns-then-far-ne0 : goal.returns-then-far-ne0
returns-then-far-ne0 c = move-shift _ _ _ _ _ (c.check-no.ensures.fine c.if-no-ne0.false) (shift (goal.at.returns-then-far-ne0 c).After-shift_no-far) c.if-far-ne0.true

pub returns-then-room-indices : goal.returns-then-room-indices
returns-then-room-indices c = move-short _ _ _ _ _ (c.check-no.ensures.fine c.if-no-ne0.false) (sym (shift (goal.at.returns-then-room-indices c).After-shift_no-far) ∙ c.if-far-ne0.false) c.if-room-indices.true

pub returns : goal.returns
returns c = move-none _ _ _ _ _ (c.check-no.ensures.fine c.if-no-ne0.false) (sym (shift (goal.at.returns c).After-shift_no-far) ∙ c.if-far-ne0.false) c.if-room-indices.false
