-- The cube root: document 01, "Colour". Definitions only. Assumes nothing.
use Rattle.std.specs.Prelude.{ℕ, ◌^◌, ◌≤◌, ◌≡◌, Bool, ◌&&◌, Float}
use Rattle.std.specs.Float.{binary64}
use Rattle.std.specs.Float.Ieee.{le, to_bits}
use Rattle.color_doubles.specs.Arithmetic.{decimal}
use Rattle.color_doubles.specs.NearestDouble.{units_of, nearest_pattern, nearest_double, NoneNearer}
use Rattle.color_doubles.specs.Range.{AtMost}

-- "cube root outside 1/128..2, or not a number": 1/128 is 0.0078125, and both ends are in
unfoldable pub in_root_range : Float → Bool
in_root_range t = le (decimal 78125 7) t && le t (decimal 2 0)

-- "The cube root is the double nearest to the exact root, compared through cubes": t is its units of 2 ^ -1074 over 2 ^ 1074
unfoldable pub root_of : Float → Float
root_of t = nearest_double 3 (units_of (to_bits binary64 t)) (2 ^ 1074)

-- the same by patterns, and what the code finds: that pattern, that no double is nearer, and a bound on it
unfoldable pub root_pattern : ℕ → ℕ
root_pattern b = nearest_pattern 3 (units_of b) (2 ^ 1074)

pub record RootFound (b p : ℕ) : Type 0 where
  pub value : p ≡ root_pattern b
  pub nearest : NoneNearer 3 (units_of b) (2 ^ 1074) p
  pub small : p ≤ 0x4000_0000_0000_0000

-- a root, bit for bit; that no double is nearer to the exact one; and a bound on it
pub record Rooted (t r : Float) : Type 0 where
  pub value : r ≡ root_of t
  pub nearest : NoneNearer 3 (units_of (to_bits binary64 t)) (2 ^ 1074) (to_bits binary64 r)
  pub small : AtMost 32 r
