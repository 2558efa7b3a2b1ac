-- Stray indices: the test with a signed bound is the test with the palette's count; none of few entries is none of more. Assumes nothing.
use mathlib.Core.Path.{◌≡◌, refl}
use mathlib.Core.Bool.{false}
use mathlib.Core.List.{List, [], ◌∷◌}
use Prim.Native.Nat.{ℕ, zero, suc, ◌≤◌}
use native.Mathlib.Nat.{zero-lt-suc}
use native.Mathlib.Omega.{arith}
use borrow.Author.Tests.{lt-ltb, leb-false, lt-leb}
use lib.IntN.{ℤ, pos, negsuc}
use Rattle.base.specs.Lists.{some}
use Rattle.base.proofs.Nowhere.{nowhere-weaker}
use Rattle.sheet.specs.Sheet.{stray, stray_z}

stray-is : (k : ℕ) (z : ℤ) → stray_z (pos k) z ≡ stray k z
unfolding stray stray_z
stray-is k (pos n) = refl
stray-is k (negsuc zero) = refl
stray-is k (negsuc (suc n)) = rw (lt-ltb 0 (suc n) (zero-lt-suc n))

pub some-stray : (k : ℕ) (l : List ℤ) → some (stray_z (pos k)) l ≡ some (stray k) l
unfolding some
some-stray k [] = refl
some-stray k (z ∷ l) = rw (stray-is k z, some-stray k l)

-- an index of one of j entries is one of more
stray-one : (j k : ℕ) (z : ℤ) → j ≤ k → stray j z ≡ false → stray k z ≡ false
unfolding stray
stray-one j k (pos n) h e = lt-leb k n (omega (arith, leb-false j n e))
stray-one j k (negsuc zero) h e = refl
stray-one j k (negsuc (suc n)) h e = e

pub stray-more : (j k : ℕ) (l : List ℤ) → j ≤ k → some (stray j) l ≡ false → some (stray k) l ≡ false
stray-more j k l h = nowhere-weaker (stray j) (stray k) (λ z. stray-one j k z h) l
