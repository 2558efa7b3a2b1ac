-- Whole numbers with a sign, as the definitions of other crates use them. Definitions only. Assumes nothing.
use Rattle.std.specs.Prelude.{ℕ, suc, Bool, false, cond, ltb, eqb, ℤ, pos, negsuc, nat_abs}
use Rattle.std.specs.Int.Signed.{lt_z}
use Rattle.base.specs.Limits.{max_distance}

unfoldable pub eq_z : ℤ → ℤ → Bool
eq_z (pos a) (pos b) = eqb a b
eq_z (pos a) (negsuc b) = false
eq_z (negsuc a) (pos b) = false
eq_z (negsuc a) (negsuc b) = eqb a b

-- "Points and shifts lie in -65,536..65,536": beyond that
unfoldable pub far : ℤ → Bool
far z = ltb max_distance (nat_abs z)

-- a number, or 0 where it is negative
unfoldable pub from_zero : ℤ → ℕ
from_zero (pos n) = n
from_zero (negsuc n) = 0

-- a coordinate on an axis of `size` positions, or `size` where it is off the axis
unfoldable pub on_axis : ℤ → ℕ → ℕ
on_axis (pos n) size = cond (ltb n size) n size
on_axis (negsuc n) size = size

-- how many numbers there are from 0 to this one, both included
unfoldable pub up_to : ℤ → ℕ
up_to (pos n) = suc n
up_to (negsuc n) = 0

-- Rust's `min` and `max`
unfoldable pub min_z : ℤ → ℤ → ℤ
min_z a b = cond (lt_z b a) b a

unfoldable pub max_z : ℤ → ℤ → ℤ
max_z a b = cond (lt_z a b) b a
