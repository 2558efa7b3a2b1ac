-- The code's spans, from a start to an end that is not part of them and without a sign, are the Rust's, with both ends and a sign. Assumes nothing.
use mathlib.Core.Path.{◌≡◌, sym}
use Prim.Native.Nat.{ℕ, ◌-◌, min}
use lib.Dec.{eqb}
use lib.IntN.{ℤ, pos}
use lib.Signed.{lt_z}
use Rattle.base.specs.Ints.{min_z, max_z, from_zero, up_to}
use Rattle.base.proofs.Sums.{count-from}
use Rattle.base.proofs.Clip.{max-zero, up-to-within, none_from}
use Rattle.selection_spans.specs.Spans.{first, last, between}

-- x0 is the lesser corner from 0 on
first-is : (a b : ℤ) → first a b ≡ pos (from_zero (min_z a b))
unfolding first
first-is a b = max-zero (min_z a b)

-- x1 - x0 + 1 is what the code counts
count-is : (a b : ℤ) (side : ℕ) → up_to (last a b side) - from_zero (min_z a b) ≡ (between a b side).count
unfolding between
count-is a b side = rw (first-is a b) (sym (count-from (last a b side) (from_zero (min_z a b))))

-- x0 > x1 where nothing is counted
pub none_is : (a b : ℤ) (side : ℕ) → eqb (between a b side).count 0 ≡ lt_z (last a b side) (first a b)
none_is a b side = rw (← count-is a b side, first-is a b) (sym (none_from (last a b side) (from_zero (min_z a b))))

pub half_open : (a b : ℤ) (side : ℕ) → between a b side ≡ record { start = from_zero (min_z a b); count = min (up_to (max_z a b)) side - from_zero (min_z a b) }
unfolding between last from_zero
half_open a b side = rw (first-is a b, count-from, up-to-within)
