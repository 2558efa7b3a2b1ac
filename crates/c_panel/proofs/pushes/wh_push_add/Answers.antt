-- `wh_push_add`: the edit. Assumes nothing.
use mathlib.Core.Path.{refl}
use Rattle.c_model.specs.Asked.{given_by, misfit_of, is_longer}
use Rattle.c_panel.proofs.Limits.{entered}
use Rattle.c_panel.proofs.pushes.wh_push_add.Goals as goal

pub returns : goal.returns
unfolding given_by misfit_of is_longer
returns c = entered _ _ _ _ _ _ _ refl refl refl c.push_entry.ensures
