-- The order of whole numbers by the sign of their difference; so how far it is to a place, either way. Assumes nothing.
use mathlib.Core.Path.{◌≡◌, refl, sym, ap, ◌∙◌}
use mathlib.Core.Bool.{Bool, true, false, not, cond}
use Prim.Native.Nat.{ℕ, zero, suc, ◌-◌}
use native.Mathlib.Omega.{arith}
use borrow.Author.Tests.{ltb-true, ltb-false, lt-ltb, le-ltb, le-leb}
use lib.Dec.{leb, ltb}
use lib.IntN.{ℤ, pos, negsuc, neg_ℤ, ◌+ℤ◌, ◌-ℤ◌, +ℤ_assoc, +ℤ_comm, neg_ℤ-+ℤ, neg_ℤ-neg_ℤ}
use lib.Signed.{lt_z, non_neg}
use Rattle.base.specs.Ints.{from_zero, up_to}

-- ---- less: the difference is negative
less-sign : (x y : ℤ) → lt_z x y ≡ not (non_neg (x -ℤ y))
less-sign (pos a) (pos zero) = le-ltb a 0 (omega arith)
less-sign (pos a) (pos (suc b)) = by (ltb a (suc b))
  where
    by : (t : Bool) → t ≡ not (non_neg (cond t (negsuc (suc b - suc a)) (pos (a - suc b))))
    by true = refl
    by false = refl
less-sign (pos a) (negsuc b) = refl
less-sign (negsuc a) (pos zero) = rw (lt-ltb 0 (suc a) (omega arith))
less-sign (negsuc a) (pos (suc b)) = refl
less-sign (negsuc a) (negsuc b) = by (ltb b a) refl
  where
    by : (t : Bool) → ltb b a ≡ t → t ≡ not (non_neg (cond (ltb (suc b) (suc a)) (negsuc (suc a - suc (suc b))) (pos (suc b - suc a))))
    by true e = rw (lt-ltb (suc b) (suc a) (omega (arith, ltb-true b a e)))
    by false e = rw (le-ltb (suc b) (suc a) (omega (arith, ltb-false b a e)))

pub same-order : (x y u v : ℤ) → x -ℤ y ≡ u -ℤ v → lt_z x y ≡ lt_z u v
same-order x y u v e = less-sign x y ∙ ap (λ z. not (non_neg z)) e ∙ sym (less-sign u v)

-- ---- counts beside a number
pub more-than : (k : ℕ) (t : ℤ) → ltb k (from_zero t) ≡ lt_z (pos k) t
unfolding from_zero
more-than k (pos n) = refl
more-than k (negsuc n) = le-ltb k 0 (omega arith)

pub no-more-than : (k : ℕ) (t : ℤ) → leb (up_to t) k ≡ lt_z t (pos k)
unfolding up_to
no-more-than k (pos n) = refl
no-more-than k (negsuc n) = le-leb 0 k (omega arith)

-- ---- k places from a
-- up, x is not reached
pub below_up : (a x : ℤ) (k : ℕ) → ltb k (from_zero (x -ℤ a)) ≡ lt_z (a +ℤ pos k) x
below_up a x k = more-than k (x -ℤ a) ∙ same-order (pos k) (x -ℤ a) (a +ℤ pos k) x moved
  where
    back : neg_ℤ (x -ℤ a) ≡ a -ℤ x
    back = neg_ℤ-+ℤ x (neg_ℤ a) ∙ ap (λ z. neg_ℤ x +ℤ z) (neg_ℤ-neg_ℤ a) ∙ +ℤ_comm (neg_ℤ x) a

    moved : pos k -ℤ (x -ℤ a) ≡ a +ℤ pos k -ℤ x
    moved = ap (λ z. pos k +ℤ z) back ∙ sym (+ℤ_assoc (pos k) a (neg_ℤ x)) ∙ ap (λ z. z -ℤ x) (+ℤ_comm (pos k) a)

-- down, x is passed
pub below-down : (a x : ℤ) (k : ℕ) → leb (up_to (a -ℤ x)) k ≡ lt_z (a -ℤ pos k) x
below-down a x k = no-more-than k (a -ℤ x) ∙ same-order (a -ℤ x) (pos k) (a -ℤ pos k) x moved
  where
    moved : a -ℤ x -ℤ pos k ≡ a -ℤ pos k -ℤ x
    moved =
        +ℤ_assoc a (neg_ℤ x) (neg_ℤ (pos k))
        ∙ ap (λ z. a +ℤ z) (+ℤ_comm (neg_ℤ x) (neg_ℤ (pos k)))
        ∙ sym (+ℤ_assoc a (neg_ℤ (pos k)) (neg_ℤ x))
