-- Doubles and their patterns: what is no NaN, and that its pattern comes back. Assumes nothing.
use mathlib.Core.Path.{◌≡◌, sym, ap, ◌∙◌, subst}
use Prim.Native.Nat.{ℕ, ◌-◌, ◌≤◌, ◌<◌}
use native.Mathlib.Nat.{mod-eq_of_lt}
use native.Mathlib.Omega.{arith}
use mathlib.Core.Bool.{Bool, true, not}
use lib.Dec.{T, ltb}
use lib.Ieee.{Float, nan, inf, fin, binary64, lt, is_nan, nan_bits, of_bits, to_bits}
use lib.Ieee.Bits.{nan_bits_above, nan_bits_is, to_bits-of_bits}
use borrow.Author.Tests.{le-ltb}

-- ---- no NaN
pub no-nan-bits : (n : ℕ) → n ≤ 0x7ff0_0000_0000_0000 → T (not (nan_bits binary64 n))
no-nan-bits n h =
    subst (λ (b : Bool). T (not b)) (sym (nan_bits_above binary64 n ∙ ap (ltb 0x7ff0_0000_0000_0000) (mod-eq_of_lt (small n h)) ∙ le-ltb 0x7ff0_0000_0000_0000 n h)) tt
  where
    small : (n : ℕ) → n ≤ 0x7ff0_0000_0000_0000 → n < 0x8000_0000_0000_0000
    small n h = omega arith

pub lt-no-nan : (x y : Float) → lt x y ≡ true → T (not (is_nan x))
unfolding lt is_nan
lt-no-nan nan y h = subst T (sym h) tt
lt-no-nan (inf s) y h = tt
lt-no-nan (fin s m e) y h = tt

-- the pattern of a double that is no NaN comes back
pub bits_back : (b : ℕ) → b ≤ 0x7ff0_0000_0000_0000 → to_bits binary64 (of_bits binary64 b) ≡ b
bits_back b h = to_bits-of_bits binary64 b (omega arith) (subst (λ (x : Bool). T (not x)) (nan_bits_is binary64 b) (no-nan-bits b h))
