-- `push_list`: 28, 21 after 1 to 4, then the core's push. Assumes nothing.
use mathlib.Core.Path.{sym, ap, ◌∙◌}
use borrow.Author.Tests.{lt-ltb, le-ltb}
use Rattle.c_model.specs.Step.{flat_step}
use Rattle.c_panel.specs.Lent.{long_number}
use Rattle.c_panel.proofs.Large.{both-fit, sheet-misfit, handle-misfit}
use Rattle.c_panel.proofs.Limits.{list-fits, list-misfit, fit-list, long-leaves, listed-leaves}
use Rattle.c_panel.proofs.pushes.push_list.Goals as goal

pub returns-then-list-ne0 : goal.returns-then-list-ne0
returns-then-list-ne0 c = λ a t. list-misfit _ a _ _ t c.if-list-ne0.true

pub returns-then-sheet_misfits : goal.returns-then-sheet_misfits
unfolding flat_step
returns-then-sheet_misfits c = λ a t. sheet-misfit _ _ (sym c.sheet_misfits.ensures ∙ c.if-sheet_misfits.true)

pub returns-then-handle_misfits : goal.returns-then-handle_misfits
unfolding flat_step
returns-then-handle_misfits c = λ a t. handle-misfit _ _ (sym c.handle_misfits.ensures ∙ c.if-handle_misfits.true)

pub returns-then-n-gt4096 : goal.returns-then-n-gt4096
returns-then-n-gt4096 c = λ a t. long-leaves _ a c.push_fit-none.result _ _ _ _ (both-fit _ _ (sym c.sheet_misfits.ensures ∙ c.if-sheet_misfits.false) (sym c.handle_misfits.ensures ∙ c.if-handle_misfits.false)) (fit-list a _ _ t c.if-list-ne0.false) (t.longer-is ∙ lt-ltb 4096 _ c.if-n-gt4096.true) c.push_fit-none.ensures (c.long_number.ensures ∙ ap long_number c.number.ensures)

pub returns : goal.returns
returns c = λ a t. listed-leaves _ a c.push_listed-answer.result _ _ _ _ _ _ (both-fit _ _ (sym c.sheet_misfits.ensures ∙ c.if-sheet_misfits.false) (sym c.handle_misfits.ensures ∙ c.if-handle_misfits.false)) t (list-fits c.args.list.now c.if-list-ne0.false) (le-ltb 4096 _ c.if-n-gt4096.false) c.push_listed-answer.ensures c.number-2.ensures
