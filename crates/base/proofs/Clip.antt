-- Whole numbers clipped to what lies from 0 on and below a side, by counts without a sign. Assumes nothing.
use mathlib.Core.Path.{◌≡◌, refl, sym, ap, ◌∙◌}
use mathlib.Core.Bool.{Bool, true, false, cond}
use Prim.Native.Nat.{ℕ, zero, suc, ◌-◌, ◌≤◌, min}
use native.Mathlib.Omega.{arith}
use borrow.Author.Tests.{ltb-true, ltb-false, le-ltb, eq-eqb, ne_eqb}
use lib.Dec.{ltb, eqb}
use lib.IntN.{ℤ, pos, negsuc, ◌-ℤ◌, -ℤ_one}
use lib.Signed.{lt_z}
use Rattle.base.specs.Ints.{min_z, max_z, from_zero, up_to}
use Rattle.base.proofs.Back.{never}

pub max-zero : (z : ℤ) → max_z z (pos 0) ≡ pos (from_zero z)
unfolding max_z from_zero
max-zero (pos n) = rw (le-ltb n 0 (omega arith))
max-zero (negsuc n) = refl

-- ---- `up_to` keeps the order, so the least of two has the least count
more : (a b : ℤ) → lt_z b a ≡ true → up_to b ≤ up_to a
unfolding up_to
more (pos a) (pos b) e = omega (arith, ltb-true b a e)
more (pos a) (negsuc b) e = omega arith
more (negsuc a) (pos b) e = never e
more (negsuc a) (negsuc b) e = omega arith

no_more : (a b : ℤ) → lt_z b a ≡ false → up_to a ≤ up_to b
unfolding up_to
no_more (pos a) (pos b) e = omega (arith, ltb-false b a e)
no_more (pos a) (negsuc b) e = never (sym e)
no_more (negsuc a) b e = omega arith

least-by : (a b : ℤ) (t : Bool) → lt_z b a ≡ t → up_to (cond t b a) ≡ min (up_to a) (up_to b)
least-by a b true e = omega (arith, more a b e)
least-by a b false e = omega (arith, no_more a b e)

up-to-last : (n : ℕ) → up_to (pos n -ℤ pos 1) ≡ n
unfolding up_to
up-to-last zero = refl
up-to-last (suc n) = ap up_to (-ℤ_one (pos (suc n)))

-- how many numbers there are from 0 to z and below n
pub up-to-within : (z : ℤ) (n : ℕ) → up_to (min_z z (pos n -ℤ pos 1)) ≡ min (up_to z) n
unfolding min_z
up-to-within z n = least-by z (pos n -ℤ pos 1) (lt_z (pos n -ℤ pos 1) z) refl ∙ ap (min (up_to z)) (up-to-last n)

-- ---- no number lies from k to z exactly where z is below k
none-by : (n k : ℕ) (t : Bool) → ltb n k ≡ t → t ≡ eqb (suc n - k) 0
none-by n k true e = sym (eq-eqb (suc n - k) 0 (omega (arith, ltb-true n k e)))
none-by n k false e = sym (ne_eqb (suc n - k) 0 (λ z. omega (arith, ltb-false n k e)))

pub none_from : (z : ℤ) (k : ℕ) → lt_z z (pos k) ≡ eqb (up_to z - k) 0
unfolding up_to
none_from (pos n) k = none-by n k (ltb n k) refl
none_from (negsuc n) k = sym (eq-eqb (0 - k) 0 (omega arith))
