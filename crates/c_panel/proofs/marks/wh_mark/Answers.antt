-- `wh_mark`: 28, then the core's mark. Assumes nothing.
use mathlib.Core.Path.{sym, ap, ◌∙◌}
use native.Mathlib.Omega.{arith}
use Rattle.history_ledger.specs.Journal.{mark_of}
use Rattle.c_panel.proofs.Large.{fits-forty, both-fit, mark-no-sheet, mark-no-handle, mark-leaves}
use Rattle.c_panel.proofs.marks.wh_mark.Goals as goal

pub returns-then-sheet_misfits : goal.returns-then-sheet_misfits
returns-then-sheet_misfits c = mark-no-sheet _ (sym c.sheet_misfits.ensures ∙ c.if-sheet_misfits.true)

pub returns-then-handle_misfits : goal.returns-then-handle_misfits
returns-then-handle_misfits c = mark-no-handle _ (sym c.handle_misfits.ensures ∙ c.if-handle_misfits.true)

pub take_handle-requires : goal.take_handle-requires
take_handle-requires c = omega (arith, fits-forty _ (sym c.handle_misfits.ensures ∙ c.if-handle_misfits.false))

pub settle_handle-requires : goal.settle_handle-requires
settle_handle-requires c = fits-forty _ (sym c.handle_misfits.ensures ∙ c.if-handle_misfits.false)

pub returns : goal.returns
returns c = mark-leaves _ _ _ c.mark_saved-marked.result.answer (both-fit _ _ (sym c.sheet_misfits.ensures ∙ c.if-sheet_misfits.false) (sym c.handle_misfits.ensures ∙ c.if-handle_misfits.false)) (c.mark_saved-marked.ensures ∙ ap (mark_of _) c.take_handle.ensures) c.settle_handle.ensures c.number.ensures
