-- `curve_no`: 25 where a loaded curve does not fit. Assumes nothing.
use mathlib.Core.Path.{sym, ap, ◌∙◌}
use mathlib.Core.Bool.{not}
use borrow.Author.Rules.{rules}
use Rattle.color_curve.proofs.Sessions.{unfit-number, fit-number, srgb-number}
use Rattle.color_curve.proofs.curve_no.Goals as goal

pub returns-then-not-is_curve : goal.returns-then-not-is_curve
returns-then-not-is_curve c = unfit-number _ _ c.if-loaded.true (ap not (sym c.is_curve.ensures) ∙ (ap not c.if-not-is_curve.true))

pub returns-else-not-is_curve : goal.returns-else-not-is_curve
returns-else-not-is_curve c = fit-number _ _ c.if-loaded.true (ap not (sym c.is_curve.ensures) ∙ (ap not c.if-not-is_curve.false))

pub returns-else-loaded : goal.returns-else-loaded
returns-else-loaded c = srgb-number _ _ c.if-loaded.false
