-- Sums and differences of whole numbers: their size, and that they fit. Assumes nothing.
use mathlib.Core.Path.{◌≡◌, refl, sym, ap, ◌∙◌}
use mathlib.Core.Bool.{Bool, true, false, cond}
use Prim.Native.Nat.{ℕ, zero, suc, ◌+◌, ◌-◌, ◌^◌, ◌<◌, ◌≤◌}
use native.Mathlib.Omega.{arith}
use borrow.Author.Tests.{ltb-true}
use lib.Dec.{ltb}
use lib.IntN.{ℤ, pos, negsuc, nat_abs, suc_ℤ, ◌+ℤ◌, ◌-ℤ◌, +ℤ_one, suc_ℤ-+ℤ}
use lib.Signed.{mag}
use mir.Syntax.{Width}
use mir.Val.{hbits, SFits}
use Rattle.base.specs.Ints.{from_zero, up_to}

-- ---- the difference of two naturals, by their order
abs-by : (a b : ℕ) (t : Bool) → ltb a b ≡ t → nat_abs (cond t (negsuc (b - suc a)) (pos (a - b))) ≤ a + b
abs-by a b true e = omega (arith, ltb-true a b e)
abs-by a b false e = omega arith

pub from-zero-by : (a b : ℕ) (t : Bool) → ltb a b ≡ t → from_zero (cond t (negsuc (b - suc a)) (pos (a - b))) ≡ a - b
unfolding from_zero
from-zero-by a b true e = omega (arith, ltb-true a b e)
from-zero-by a b false e = refl

-- ---- a sum is no larger than its parts together
pub abs-sum : (a b : ℤ) → nat_abs (a +ℤ b) ≤ nat_abs a + nat_abs b
abs-sum (pos a) (pos b) = omega arith
abs-sum (pos a) (negsuc b) = abs-by a (suc b) (ltb a (suc b)) refl
abs-sum (negsuc a) (pos b) = omega (arith, abs-by b (suc a) (ltb b (suc a)) refl)
abs-sum (negsuc a) (negsuc b) = omega arith

mag-abs : (z : ℤ) → mag z ≤ nat_abs z
mag-abs (pos n) = omega arith
mag-abs (negsuc n) = omega arith

pub sum_fits : {w : Width} (a b : ℤ) → nat_abs a + nat_abs b < 2 ^ hbits w → SFits w (a +ℤ b)
sum_fits a b h = record { sfits = omega (arith, mag-abs (a +ℤ b), abs-sum a b) }

-- ---- what is left of a number from 0 on, less k
from-zero-sub : (z : ℤ) (k : ℕ) → from_zero (z -ℤ pos k) ≡ from_zero z - k
unfolding from_zero
from-zero-sub (pos n) zero = omega arith
from-zero-sub (pos n) (suc k) = from-zero-by n (suc k) (ltb n (suc k)) refl
from-zero-sub (negsuc n) zero = from-zero-by zero (suc n) (ltb zero (suc n)) refl ∙ omega arith
from-zero-sub (negsuc n) (suc k) = omega arith

pub suc-up-to : (z : ℤ) → from_zero (suc_ℤ z) ≡ up_to z
unfolding from_zero up_to
suc-up-to (pos n) = refl
suc-up-to (negsuc zero) = refl
suc-up-to (negsuc (suc n)) = refl

-- how many numbers there are from k to z
pub count-from : (z : ℤ) (k : ℕ) → from_zero (z -ℤ pos k +ℤ pos 1) ≡ up_to z - k
count-from z k = ap from_zero (+ℤ_one (z -ℤ pos k) ∙ sym (suc_ℤ-+ℤ z _)) ∙ from-zero-sub (suc_ℤ z) k ∙ ap (λ (n : ℕ). n - k) (suc-up-to z)
