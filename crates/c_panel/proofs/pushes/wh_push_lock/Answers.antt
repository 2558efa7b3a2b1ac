-- `wh_push_lock`: 28 of the mark, then the edit. Assumes nothing.
use mathlib.Core.Path.{refl}
use Rattle.c_model.specs.Asked.{given_by, is_longer}
use Rattle.c_panel.proofs.Limits.{entered, misfit-asked, lock-misfit, lock-fits}
use Rattle.c_panel.proofs.pushes.wh_push_lock.Goals as goal

pub returns-then-mark-gt1 : goal.returns-then-mark-gt1
returns-then-mark-gt1 c = misfit-asked _ _ (lock-misfit _ _ c.if-mark-gt1.true)

pub returns : goal.returns
unfolding given_by is_longer
returns c = entered _ _ _ _ _ _ _ refl (lock-fits _ _ c.if-mark-gt1.false) refl c.push_entry.ensures
