-- The LAB of a colour of bytes is finite, and its numbers are doubles of 64 bits: on the definitions alone. Assumes nothing.
use mathlib.Core.Path.{◌≡◌, refl, sym, subst}
use mathlib.Core.Bool.{Bool, true, false}
use Prim.Native.Nat.{ℕ, ◌+◌, ◌*◌, ◌^◌, ◌≤◌}
use native.Mathlib.Nat.{le_trans, le_of_eq, mul-le-mul}
use native.Mathlib.Omega.{arith}
use borrow.Author.Tests.{le-ltb}
use lib.Dec.{T, lit≤}
use lib.Ieee.{Float, binary64, to_bits, lt, fits}
use lib.Ieee.Fits.{sub-fits, mul-fits}
use Rattle.base.specs.declared.Lab.{Lab}
use Rattle.base.specs.declared.Rgb.{Rgb}
use Rattle.color_doubles.specs.Arithmetic.{decimal, fraction}
use Rattle.color_doubles.specs.NearestDouble.{units_of, above_middle, nearest_double}
use Rattle.color_root.specs.CubeRoot.{in_root_range, root_of, root_pattern}
use Rattle.color_lab.specs.declared.LinearRgb.{LinearRgb}
use Rattle.color_lab.specs.Curve.{linear_rgb}
use Rattle.color_doubles.specs.Range.{AtMost}
use Rattle.color_lab.specs.Convert.{lab_f, lab_from, lab_of_linear, lab_of, LinearValues, FiniteLab}
use Rattle.color_root.proofs.RootRange.{range-bits}
use Rattle.color_doubles.proofs.Units.{units_mono}
use Rattle.color_doubles.proofs.Magnitude.{pattern-small}
use Rattle.color_doubles.proofs.NearestDouble.{at_most}
use Rattle.color_lab.proofs.LinearTable.{linear-linear}
use Rattle.color_lab.proofs.Range.{x-small, y-small, z-small, in-range, line_small, lab-finite}

-- ---- the root of a number of at most 2 is at most 2
abbrev two : ℕ
two = 0x4000_0000_0000_0000

two-units : units_of two * 2 ^ (1075 * 3) ≤ 2 ^ 1074 * (units_of two + units_of (two + 1)) ^ 3
two-units = unfold units_of in lit≤ tt

root-at-most : (b : ℕ) → b ≤ two → root_pattern b ≤ two
unfolding root_pattern above_middle
root-at-most b h =
    at_most 3 (units_of b) (2 ^ 1074) two (omega arith)
    (le-ltb (2 ^ 1074 * (units_of two + units_of (two + 1)) ^ 3) (units_of b * 2 ^ (1075 * 3)) (le_trans (mul-le-mul (units_mono b two h) (le_of_eq refl)) two-units))

root-small : (t : Float) → T (in_root_range t) → AtMost 32 (root_of t)
unfolding root_of root_pattern nearest_double
root-small t h = pattern-small _ (root-at-most (to_bits binary64 t) (range-bits t h).1)

-- ---- so each f value is at most 32
f-small : (t : Float) → AtMost 2 t → AtMost 32 (lab_f t)
unfolding lab_f
f-small t h = go (lt (fraction 216 24389) t) refl
  where
    go : (b : Bool) → lt (fraction 216 24389) t ≡ b → AtMost 32 (lab_f t)
    go true e = rw e (root-small t (in-range t h (subst T (sym e) tt)))
    go false e = rw e (line_small t h)

-- ---- for all linear values
pub lab-of-values : (v : LinearRgb) → LinearValues v → FiniteLab (lab_of_linear v)
unfolding lab_of_linear
lab-of-values v h = lab-finite _ _ _ (f-small _ (x-small _ h)) (f-small _ (y-small _ h)) (f-small _ (z-small _ h))

-- ---- for every colour of bytes
linear-values : (c : Rgb) → c.r ≤ 255 → c.g ≤ 255 → c.b ≤ 255 → LinearValues (linear_rgb c)
unfolding linear_rgb
linear-values c r g b = record { r-linear = linear-linear c.r r; g-linear = linear-linear c.g g; b-linear = linear-linear c.b b }

pub lab-of-bytes : (c : Rgb) → c.r ≤ 255 → c.g ≤ 255 → c.b ≤ 255 → FiniteLab (lab_of c)
unfolding lab_of
lab-of-bytes c r g b = lab-of-values (linear_rgb c) (linear-values c r g b)

-- ---- for all values
pub record FitsDouble (x : Lab) : Type 0 where
  pub l : T (fits binary64 x.l)
  pub a : T (fits binary64 x.a)
  pub b : T (fits binary64 x.b)

pub lab-fits : (v : LinearRgb) → FitsDouble (lab_of_linear v)
unfolding lab_of_linear lab_from
lab-fits v = record { l = sub-fits binary64 _ _; a = mul-fits binary64 _ _; b = mul-fits binary64 _ _ }
