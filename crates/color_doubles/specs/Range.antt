-- A bound on a double's magnitude, by which the steps of the conversion stay in range. Definitions only. Assumes nothing.
use Rattle.std.specs.Prelude.{◌≡◌, ℕ, ◌*◌, Bool, false, T, leb, Float}
use Rattle.std.specs.Float.{nan, inf, fin}
use Rattle.std.specs.Float.Ieee.{up, down}

-- x is finite, and |x| ≤ a / c
abbrev pub within : ℕ → ℕ → Float → Bool
within a c nan = false
within a c (inf s) = false
within a c (fin s m e) = leb (m * up e * c) (a * down e)

abbrev pub AtMost : ℕ → Float → Type 0
AtMost a x = T (within a 1 x)

-- a result, bit for bit, and a bound on it
pub record Bounded (a : ℕ) (x expected : Float) : Type 0 where
  pub value : x ≡ expected
  pub small : AtMost a x
