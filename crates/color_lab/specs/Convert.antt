-- 8-bit sRGB to CIELAB (D65), each operation rounded once, left to right, as in `rgb_to_lab_one` of color.rs. Definitions only. Assumes nothing.
use Rattle.std.specs.Prelude.{◌≡◌, Bool, ◌&&◌, cond, T, Float}
use Rattle.std.specs.Float.Ieee.{lt, le}
use Rattle.std.specs.Float.Ieee.Scale.{finite}
use Rattle.base.specs.declared.Lab.{Lab}
use Rattle.base.specs.declared.Rgb.{Rgb}
use Rattle.color_lab.specs.declared.LinearRgb.{LinearRgb}
use Rattle.color_doubles.specs.Arithmetic.{decimal, fraction, ◌⊕◌, ◌⊖◌, ◌⊗◌, ◌⊘◌}
use Rattle.color_root.specs.CubeRoot.{root_of}
use Rattle.color_lab.specs.Curve.{linear_rgb}

-- `lab_f`, by document 02, E7: "The threshold becomes the double nearest 216/24389 and the slope the double nearest 841/108"
unfoldable pub lab_f : Float → Float
lab_f t =
    cond (lt (fraction 216 24389) t)
    (root_of t)
    (fraction 841 108 ⊗ t ⊕ decimal 16 0 ⊘ decimal 116 0)

-- `mat_vec`, one row of it: summed left to right
unfoldable pub row_of : LinearRgb → Float → Float → Float → Float
row_of v m0 m1 m2 = v.r ⊗ m0 ⊕ v.g ⊗ m1 ⊕ v.b ⊗ m2

-- the three ratios: `XYZ_FROM_RGB` times the colour, over `WHITE`
unfoldable pub x_of : LinearRgb → Float
x_of v = row_of v (decimal 412453 6) (decimal 357580 6) (decimal 180423 6) ⊘ decimal 95047 5

unfoldable pub y_of : LinearRgb → Float
y_of v = row_of v (decimal 212671 6) (decimal 715160 6) (decimal 72169 6) ⊘ decimal 1 0

unfoldable pub z_of : LinearRgb → Float
z_of v = row_of v (decimal 19334 6) (decimal 119193 6) (decimal 950227 6) ⊘ decimal 108883 5

-- `[116.0 * fy - 16.0, 500.0 * (fx - fy), 200.0 * (fy - fz)]`
unfoldable pub lab_from : Float → Float → Float → Lab
lab_from fx fy fz =
    record { l = decimal 116 0 ⊗ fy ⊖ decimal 16 0; a = decimal 500 0 ⊗ (fx ⊖ fy); b = decimal 200 0 ⊗ (fy ⊖ fz) }

-- the steps after the curve
unfoldable pub lab_of_linear : LinearRgb → Lab
lab_of_linear v = lab_from (lab_f (x_of v)) (lab_f (y_of v)) (lab_f (z_of v))

-- `rgb8_to_lab` of one colour
unfoldable pub lab_of : Rgb → Lab
lab_of c = lab_of_linear (linear_rgb c)

-- a linear value: from 0 to 1
unfoldable pub is_linear : Float → Bool
is_linear x = le (decimal 0 0) x && le x (decimal 1 0)

pub record LinearValues (v : LinearRgb) : Type 0 where
  pub r-linear : T (is_linear v.r)
  pub g-linear : T (is_linear v.g)
  pub b-linear : T (is_linear v.b)

pub record FiniteLab (x : Lab) : Type 0 where
  pub l-finite : T (finite x.l)
  pub a-finite : T (finite x.a)
  pub b-finite : T (finite x.b)

-- a result, bit for bit, and that it is finite
pub record Converted (x expected : Lab) : Type 0 where
  pub value : x ≡ expected
  pub finite : FiniteLab x
