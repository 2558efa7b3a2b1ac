-- `wh_push_remove`: the edit, unfilled. Assumes nothing.
use mathlib.Core.Path.{refl, ap}
use mathlib.Core.Bool.{false}
use mathlib.Core.List.{[]}
use Rattle.base.specs.declared.Lab.{Lab}
use Rattle.base.specs.declared.Edit.TheVariants.{PaletteRemove}
use Rattle.c_form.specs.Flat.{numbers_in}
use Rattle.history_model.specs.Editing.{given_of}
use Rattle.c_model.specs.Asked.{unfilled, given_by, misfit_of, is_longer}
use Rattle.c_panel.proofs.pushes.wh_push_remove.Goals as goal

pub returns : goal.returns
unfolding given_by misfit_of is_longer
returns c = c.push_list.ensures _ (record { given_is = ap (λ (l : Lab). given_of false [] (PaletteRemove c.args.index unfilled l) (numbers_in c.args.list.now)) c.no_lab-lab.ensures; misfit-is = refl; longer-is = refl })
