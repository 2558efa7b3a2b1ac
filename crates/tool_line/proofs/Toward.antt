-- Whole numbers on the way from one to another: the next place, how far the two are apart, and that all of it fits. Assumes nothing.
use mathlib.Core.Path.{◌≡◌, refl, sym, ap, ◌∙◌}
use mathlib.Core.Bool.{Bool, true, false, cond}
use Prim.Native.Nat.{ℕ, zero, suc, ◌+◌, ◌^◌, ◌≤◌}
use native.Mathlib.Numerals.{add-one}
use native.Mathlib.Omega.{arith}
use borrow.Author.Tests.{ltb-true, ltb-false, le-ltb}
use lib.Dec.{T}
use lib.IntN.{ℤ, pos, negsuc, nat_abs, neg_ℤ, ◌+ℤ◌, ◌-ℤ◌, +ℤ_idr, +ℤ_assoc, +ℤ_comm, neg_ℤ-+ℤ, neg_ℤ-neg_ℤ}
use lib.Signed.{lt_z, non_neg}
use mir.Syntax.{w32, w64}
use mir.Val.{SFits, Fits, to_z}
use mir.Facts.{Fits-nat_abs, to_z-of_z}
use Rattle.base.specs.Ints.{far}
use Rattle.base.proofs.Back.{never, near-abs}
use Rattle.base.proofs.Sums.{abs-sum, sum_fits}
use Rattle.tool_line.specs.Line.{side, toward}
use Rattle.tool_line.specs.Walk.{direction}

pub abs_neg : (z : ℤ) → nat_abs (neg_ℤ z) ≡ nat_abs z
abs_neg (pos zero) = refl
abs_neg (pos (suc n)) = refl
abs_neg (negsuc n) = refl

-- ---- places on the way
pub toward-none : (a b : ℤ) → toward a b 0 ≡ a
unfolding toward
toward-none a b = by (lt_z b a)
  where
    by : (t : Bool) → cond t (a -ℤ pos 0) (a +ℤ pos 0) ≡ a
    by true = +ℤ_idr a
    by false = +ℤ_idr a

next-back : (k : ℕ) → neg_ℤ (pos (k + 1)) ≡ neg_ℤ (pos k) +ℤ negsuc 0
next-back zero = refl
next-back (suc k) = rw (add-one (suc k)) (ap negsuc (omega arith))

pub toward-next : (a b : ℤ) (k : ℕ) → toward a b (k + 1) ≡ toward a b k +ℤ direction a b
unfolding toward direction
toward-next a b k = by (lt_z b a)
  where
    by : (t : Bool) → cond t (a -ℤ pos (k + 1)) (a +ℤ pos (k + 1)) ≡ cond t (a -ℤ pos k) (a +ℤ pos k) +ℤ cond t (negsuc 0) (pos 1)
    by true = ap (λ z. a +ℤ z) (next-back k) ∙ sym (+ℤ_assoc a (neg_ℤ (pos k)) (negsuc 0))
    by false = sym (+ℤ_assoc a (pos k) (pos 1))

pub toward-abs : (a b : ℤ) (k : ℕ) → nat_abs (toward a b k) ≤ nat_abs a + k
unfolding toward
toward-abs a b k = by (lt_z b a)
  where
    by : (t : Bool) → nat_abs (cond t (a -ℤ pos k) (a +ℤ pos k)) ≤ nat_abs a + k
    by true = omega (arith, abs-sum a (neg_ℤ (pos k)), abs_neg (pos k))
    by false = abs-sum a (pos k)

pub direction-abs : (a b : ℤ) → nat_abs (direction a b) ≤ 1
unfolding direction
direction-abs a b = by (lt_z b a)
  where
    by : (t : Bool) → nat_abs (cond t (negsuc 0) (pos 1)) ≤ 1
    by true = omega arith
    by false = omega arith

-- ---- how far it is, either way
pub side-abs : (a b : ℤ) → side a b ≤ nat_abs a + nat_abs b
unfolding side
side-abs a b = omega (arith, abs-sum b (neg_ℤ a), abs_neg a)

pub side-back : (a b : ℤ) → nat_abs (a -ℤ b) ≡ side a b
unfolding side
side-back a b = sym (abs_neg (a -ℤ b)) ∙ ap nat_abs (neg_ℤ-+ℤ a (neg_ℤ b) ∙ ap (λ z. neg_ℤ a +ℤ z) (neg_ℤ-neg_ℤ b) ∙ +ℤ_comm (neg_ℤ a) b)

-- a difference of what is not less is not negative
pub from_less : (a b : ℤ) → lt_z a b ≡ false → T (non_neg (a -ℤ b))
from_less (pos a) (pos zero) e = tt
from_less (pos a) (pos (suc b)) e = rw e tt
from_less (pos a) (negsuc b) e = tt
from_less (negsuc a) (pos b) e = never (sym e)
from_less (negsuc a) (negsuc b) e = rw (le-ltb (suc b) (suc a) (omega (arith, ltb-false b a e))) tt

pub not_back : (a b : ℤ) → lt_z b a ≡ true → lt_z a b ≡ false
not_back (pos a) (pos b) e = le-ltb a b (omega (arith, ltb-true b a e))
not_back (pos a) (negsuc b) e = refl
not_back (negsuc a) (pos b) e = never e
not_back (negsuc a) (negsuc b) e = le-ltb b a (omega (arith, ltb-true a b e))

-- ---- what fits
pub small : (z : ℤ) → nat_abs z ≤ 2 ^ 20 → SFits w32 z
small (pos n) h = record { sfits = omega arith }
small (negsuc n) h = record { sfits = omega arith }

pub nat-back : (k : ℕ) → k ≤ 2 ^ 20 → to_z w32 k ≡ pos k
nat-back k h = to_z-of_z {w = w32} {z = pos k} (record { sfits = omega arith })

-- k places from a coordinate
pub toward-fits : (a : ℤ) (k : ℕ) → far a ≡ false → k ≤ 131072 → SFits w32 (a +ℤ pos k) × SFits w32 (a -ℤ pos k)
toward-fits a k p h =
    let f = near-abs a p in
    (sum_fits a (pos k) (omega arith), sum_fits a (neg_ℤ (pos k)) (omega (arith, abs_neg (pos k))))

pub direction-fits : (a b : ℤ) → SFits w32 (direction a b)
direction-fits a b = small (direction a b) (omega (arith, direction-abs a b))

-- a difference of two coordinates, taken as the code takes it
pub record Apart (a b : ℤ) : Type 0 where
  pub fits : SFits w32 (a -ℤ b)
  pub cast : T (non_neg (a -ℤ b)) × Fits w64 (nat_abs (a -ℤ b))

pub apart : (a b : ℤ) → far a ≡ false → far b ≡ false → lt_z a b ≡ false → Apart a b
apart a b p q e =
    let h = near-abs a p in
    let k = near-abs b q in
    let f : SFits w32 (a -ℤ b) = sum_fits a (neg_ℤ b) (omega (arith, abs_neg b)) in
    record { fits = f; cast = (from_less a b e, Fits-nat_abs tt f) }
