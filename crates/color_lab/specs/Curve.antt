-- The sRGB curve of IEC 61966-2-1 at a byte: document 01, "Colour". Definitions only. Assumes nothing.
use Rattle.std.specs.Prelude.{ℕ, zero, suc, ◌+◌, ◌*◌, ◌^◌, ◌<◌, ◌≡◌, cond, List, [], ◌∷◌, leb, pos, Float}
use Rattle.std.specs.Float.{binary64}
use Rattle.std.specs.Float.Ieee.{of_int, to_bits}
use Rattle.base.specs.declared.Rgb.{Rgb}
use Rattle.color_lab.specs.declared.LinearRgb.{LinearRgb}
use Rattle.color_doubles.specs.Arithmetic.{decimal, ◌⊘◌}
use Rattle.color_doubles.specs.NearestDouble.{nearest_double, NoneNearer}

-- "For byte c ≤ 10 the linear value is (c/255)/12.92 in doubles. For the others .. the double nearest to ((40c+561)/10761)^(12/5)":
-- the fifth root of (40c+561)^12 / 10761^12
unfoldable pub linear_of : ℕ → Float
linear_of c =
    cond (leb c 10)
    (of_int binary64 (pos c) ⊘ decimal 255 0 ⊘ decimal 1292 2)
    (nearest_double 5 ((40 * c + 561) ^ 12) (10761 ^ 12))

-- what the curve gives at a byte, and, from 11 on, that no double is nearer to the exact value
pub record Linear (c : ℕ) (x : Float) : Type 0 where
  pub value : x ≡ linear_of c
  pub nearest : 10 < c → NoneNearer 5 ((40 * c + 561) ^ 12) (10761 ^ 12) (to_bits binary64 x)

-- n values of the curve, from the byte c on
unfoldable pub linear_from : ℕ → ℕ → List Float
linear_from c zero = []
linear_from c (suc n) = linear_of c ∷ linear_from (suc c) n

-- "a table of 245 doubles, entries 11 to 255"
unfoldable pub linear_table : List Float
linear_table = linear_from 11 245

-- a colour's three linear values
unfoldable pub linear_rgb : Rgb → LinearRgb
linear_rgb c = record { r = linear_of c.r; g = linear_of c.g; b = linear_of c.b }
