-- `wh_undo`: 28, then the core's undo. Assumes nothing.
use mathlib.Core.Path.{sym, ◌∙◌}
use Rattle.c_panel.proofs.Large.{both-fit, sheet-misfit, handle-misfit, numbered}
use Rattle.c_model.specs.Step.{flat_step}
use Rattle.c_panel.proofs.undoing.wh_undo.Goals as goal

pub returns-then-sheet_misfits : goal.returns-then-sheet_misfits
unfolding flat_step
returns-then-sheet_misfits c = sheet-misfit _ _ (sym c.sheet_misfits.ensures ∙ c.if-sheet_misfits.true)

pub returns-then-handle_misfits : goal.returns-then-handle_misfits
unfolding flat_step
returns-then-handle_misfits c = handle-misfit _ _ (sym c.handle_misfits.ensures ∙ c.if-handle_misfits.true)

pub returns : goal.returns
unfolding flat_step
returns c = numbered _ _ c.undo_fit-answer.result _ _ _ _ (both-fit _ _ (sym c.sheet_misfits.ensures ∙ c.if-sheet_misfits.false) (sym c.handle_misfits.ensures ∙ c.if-handle_misfits.false)) c.undo_fit-answer.ensures c.number.ensures
