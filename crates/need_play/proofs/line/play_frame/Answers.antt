-- `play_frame`: a pixel frame's changes in a list of their own. Assumes nothing.
use Rattle.panel_model.proofs.Bringing.{pixels-fit, roomy-pixels, roomy-other, act-brought, act-other}
use mathlib.Core.Path.{◌∙◌}
use native.Mathlib.Omega.{arith}
use Rattle.panel_act.proofs.Others.{no_pixels}
use Rattle.need_play.proofs.line.play_frame.Goals as goal

pub take_changes-requires : goal.take_changes-requires
take_changes-requires c =
    let q = c.in-Pixels.is in
    let fits = pixels-fit _ _ _ _ q c.requires.0 in
    record { n_in_bounds = fits; n_in_bounds_2 = omega (arith, fits, c.requires.1) }

pub act-requires : goal.act-requires
act-requires c =
    let fits = pixels-fit _ _ _ _ c.in-Pixels.is c.requires.0 in
    roomy-pixels _ _ _ _ (omega (arith, fits, c.requires.1, c.take_changes.auto.list))

pub returns-in-Pixels : goal.returns-in-Pixels
returns-in-Pixels c = c.act.ensures ∙ act-brought _ _ _ _ _ _ _ _ _ c.in-Pixels.is c.take_changes.ensures

pub act-requires-2 : goal.act-requires-2
act-requires-2 c = roomy-other c.args.frame _ _ (no_pixels _ c.in_default.not-Pixels) c.requires.2

pub returns : goal.returns
returns c = c.act-2.ensures ∙ act-other _ _ _ c.args.frame _ _ (no_pixels _ c.in_default.not-Pixels)
