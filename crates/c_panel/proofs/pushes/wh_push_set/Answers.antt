-- `wh_push_set`: the edit, unfilled. Assumes nothing.
use mathlib.Core.Path.{refl, ap}
use mathlib.Core.Bool.{false}
use mathlib.Core.List.{[]}
use Rattle.base.specs.declared.Lab.{Lab}
use Rattle.base.specs.declared.Edit.TheVariants.{PaletteSet}
use Rattle.history_model.specs.Editing.{given_of}
use Rattle.c_model.specs.Asked.{Asked, given_by, misfit_of, is_longer}
use Rattle.c_panel.proofs.Limits.{entered}
use Rattle.c_panel.proofs.pushes.wh_push_set.Goals as goal

pub returns : goal.returns
unfolding given_by misfit_of is_longer
returns c = entered _ _ _ _ _ (Asked.set c.args.index (record { r = c.args.r; g = c.args.g; b = c.args.b })) _ (ap (λ (l : Lab). given_of false [] (PaletteSet c.args.index (record { r = c.args.r; g = c.args.g; b = c.args.b }) (record { r = c.args.r; g = c.args.g; b = c.args.b }) l) []) c.no_lab-old_lab.ensures) refl refl c.push_entry.ensures
