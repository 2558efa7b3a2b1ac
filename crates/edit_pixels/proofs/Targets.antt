-- Indices that are stray, by their sign. Assumes nothing.
use mathlib.Core.Path.{◌≡◌, refl, sym}
use mathlib.Core.Bool.{true, false}
use Prim.Native.Nat.{ℕ, zero, suc}
use native.Mathlib.Nat.{zero-lt-suc}
use native.Mathlib.Omega.{arith}
use borrow.Author.Tests.{lt-ltb, ltb-true}
use lib.Dec.{leb}
use lib.IntN.{ℤ, pos, negsuc, nat_abs}
use lib.Signed.{lt_z}
use Rattle.base.proofs.Back.{never}
use Rattle.sheet.specs.Sheet.{stray}

pub stray-negative : (k : ℕ) (z : ℤ) → lt_z z (pos 0) ≡ true → lt_z z (negsuc 0) ≡ stray k z
unfolding stray
stray-negative k (pos n) e = absurd (omega (arith, ltb-true n 0 e))
stray-negative k (negsuc zero) e = refl
stray-negative k (negsuc (suc n)) e = lt-ltb 0 (suc n) (zero-lt-suc n)

pub stray-natural : (k : ℕ) (z : ℤ) → lt_z z (pos 0) ≡ false → leb k (nat_abs z) ≡ stray k z
unfolding stray
stray-natural k (pos n) e = refl
stray-natural k (negsuc n) e = never (sym e)
