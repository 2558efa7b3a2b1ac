-- `wh_push_pixels`: the edit. Assumes nothing.
use mathlib.Core.Path.{refl}
use Rattle.c_model.specs.Asked.{given_by, misfit_of, is_longer}
use Rattle.c_panel.proofs.pushes.wh_push_pixels.Goals as goal

pub returns : goal.returns
unfolding given_by misfit_of is_longer
returns c = c.push_list.ensures _ (record { given_is = refl; misfit-is = refl; longer-is = refl })
