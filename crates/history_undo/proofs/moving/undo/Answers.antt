-- `undo`: 1 to 4, "still", then the record. Assumes nothing.
use mathlib.Core.Path.{◌∙◌}
use Rattle.history_model.proofs.Answers.{leaves-refused, leaves-still}
use Rattle.history_undo.proofs.Answers.{undo-refused, undo-still, undo-over, offset-inside, not_first}
use borrow.Author.Rules.{rules}
use Rattle.history_undo.proofs.moving.undo.Goals as goal

pub returns-then-no-ne0 : goal.returns-then-no-ne0
returns-then-no-ne0 c = leaves-refused _ _ _ _ _ _ _ _ _ _ _ c.refused.ensures ∙ undo-refused _ _ _ c.move_no-no.ensures c.if-no-ne0.true

pub returns-then-handle-eq0 : goal.returns-then-handle-eq0
returns-then-handle-eq0 c = leaves-still _ _ _ _ _ _ _ _ _ _ c.still.ensures ∙ undo-still _ _ _ c.move_no-no.ensures c.if-no-ne0.false c.if-handle-eq0.true

pub find_back-found-requires : goal.find_back-found-requires
find_back-found-requires c = offset-inside _ (c.move_no-no.ensures.fine c.if-no-ne0.false)

pub undo_found-requires : goal.undo_found-requires
undo_found-requires c = record { standing = c.move_no-no.ensures.fine c.if-no-ne0.false; position_nonzero = not_first _ (c.move_no-no.ensures.fine c.if-no-ne0.false) c.if-handle-eq0.false; found_value = c.find_back-found.ensures _ }

pub returns : goal.returns
returns c = c.undo_found.ensures ∙ undo-over _ _ _ c.move_no-no.ensures c.if-no-ne0.false c.if-handle-eq0.false
