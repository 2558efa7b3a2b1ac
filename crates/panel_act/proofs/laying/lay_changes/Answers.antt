-- `lay_changes`: a pixel frame brings its changes, any other none. Assumes nothing.
use Rattle.panel_model.proofs.Bringing.{pixels-fit, brought-pixels, brought-other}
use native.Mathlib.Omega.{arith}
use Rattle.panel_act.proofs.Others.{no_pixels}
use Rattle.panel_act.proofs.laying.lay_changes.Goals as goal

pub take_changes-requires : goal.take_changes-requires
take_changes-requires c =
    let fits = pixels-fit _ _ _ _ c.in-Pixels.is c.requires.0 in
    record { n_in_bounds = fits; n_in_bounds_2 = omega (arith, fits, c.requires.1, c.requires.2) }

pub returns-in-Pixels : goal.returns-in-Pixels
returns-in-Pixels c = brought-pixels c.args.frame _ _ _ _ _ c.in-Pixels.is c.take_changes.ensures

pub returns-in_default : goal.returns-in_default
returns-in_default c = brought-other c.args.frame _ _ (no_pixels _ c.in_default.not-Pixels)
