-- The curve of a session, loaded or sRGB's: its number, and that under every curve that fits the LAB of a colour of bytes is finite and its numbers are
-- doubles of 64 bits. Assumes nothing.
use mathlib.Core.Path.{◌≡◌, refl, sym, subst}
use mathlib.Core.Bool.{Bool, true, false, not}
use mathlib.Core.List.{List, []}
use Prim.Native.Nat.{◌≤◌}
use native.Mathlib.Omega.{arith}
use borrow.Author.Tests.{not-false}
use lib.Ieee.{Float}
use Rattle.base.specs.Numbers.{unfit_curve}
use Rattle.base.specs.Checks.{◌when◌, first_of}
use Rattle.base.proofs.First.{past}
use Rattle.base.specs.declared.Rgb.{Rgb}
use Rattle.base.specs.declared.Lab.{Lab}
use Rattle.color_lab.specs.Convert.{lab_of, LinearValues, FiniteLab, Converted}
use Rattle.color_lab.proofs.Bytes.{lab-of-values, lab-of-bytes, FitsDouble, lab-fits}
use Rattle.color_lab.specs.declared.LinearRgb.{LinearRgb}
use Rattle.color_curve.specs.Curve.{Curve, curve_of, value_at, fit_curve, lab_on, lab_by, curve_checks, CurveFits}
use Rattle.color_curve.proofs.Fit.{rules, fit-linear}

-- ---- the number
module _ (loaded : Bool) (values : List Float) where
  pub loaded-fits : loaded ≡ true → CurveFits (curve_of loaded values) → fit_curve values ≡ true
  loaded-fits l e = not-false (fit_curve values) (past (unfit_curve when not (fit_curve values)) [] (omega arith) (passes e)).off
    where
      passes : CurveFits (curve_of loaded values) → CurveFits (curve_of true values)
      passes e = subst (λ (b : Bool). CurveFits (curve_of b values)) l e

  pub unfit-number : loaded ≡ true → not (fit_curve values) ≡ true → unfit_curve ≡ first_of (curve_checks (curve_of loaded values))
  unfolding first_of
  unfit-number l e = rw (l, e) refl

  pub fit-number : loaded ≡ true → not (fit_curve values) ≡ false → 0 ≡ first_of (curve_checks (curve_of loaded values))
  unfolding first_of
  fit-number l e = rw (l, e) refl

  pub srgb-number : loaded ≡ false → 0 ≡ first_of (curve_checks (curve_of loaded values))
  unfolding first_of
  srgb-number l = rw l refl

  -- ---- the LAB of a colour, from the values or by sRGB
  pub by_values : {r : Lab} (c : Rgb) → loaded ≡ true → Converted r (lab_on values c) → Converted r (lab_by (curve_of loaded values) c)
  by_values {r} c l h = subst (λ (b : Bool). Converted r (lab_by (curve_of b values) c)) (sym l) h

  pub by-srgb : {r : Lab} (c : Rgb) → loaded ≡ false → Converted r (lab_of c) → Converted r (lab_by (curve_of loaded values) c)
  by-srgb {r} c l h = subst (λ (b : Bool). Converted r (lab_by (curve_of b values) c)) (sym l) h

-- ---- the three values of a colour
pub on_values : (values : List Float) → fit_curve values ≡ true → (c : Rgb) → c.r ≤ 255 → c.g ≤ 255 → c.b ≤ 255
    → let v : LinearRgb = record { r = value_at values c.r; g = value_at values c.g; b = value_at values c.b } in LinearValues v
on_values values h c r g b =
    let f = rules values h in
    record { r-linear = fit-linear values f c.r r; g-linear = fit-linear values f c.g g; b-linear = fit-linear values f c.b b }

-- ---- by a session's curve
pub by-finite : (c : Curve) → CurveFits c → (rgb : Rgb) → rgb.r ≤ 255 → rgb.g ≤ 255 → rgb.b ≤ 255 → FiniteLab (lab_by c rgb)
unfolding lab_on
by-finite c e rgb r g b = go c.loaded c.values e
  where
    go : (loaded : Bool) (values : List Float) → CurveFits (curve_of loaded values) → FiniteLab (lab_by (curve_of loaded values) rgb)
    go true values e = lab-of-values _ (on_values values (loaded-fits true values refl e) rgb r g b)
    go false values e = lab-of-bytes rgb r g b

pub by_fits : (c : Curve) (rgb : Rgb) → FitsDouble (lab_by c rgb)
unfolding lab_on lab_of
by_fits c rgb = go c.loaded c.values
  where
    go : (loaded : Bool) (values : List Float) → FitsDouble (lab_by (curve_of loaded values) rgb)
    go true values = lab-fits _
    go false values = lab-fits _
