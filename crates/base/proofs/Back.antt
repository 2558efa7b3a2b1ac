-- A signed number is its bits in the code, and reads back as itself. Assumes nothing.
use mathlib.Core.Path.{◌≡◌, refl, sym, ap, ◌∙◌}
use mathlib.Core.Bool.{Bool, true, false}
use Prim.Native.Nat.{ℕ, suc, ◌^◌, ◌<◌, ◌-◌, ◌≤◌}
use native.Mathlib.Omega.{arith}
use borrow.Author.Tests.{ltb-false, eq-eqb, ne_eqb, eqb-true, eqb-false}
use lib.Dec.{T, ltb, eqb}
use lib.IntN.{ℤ, pos, negsuc, nat_abs}
use lib.Signed.{mag, lt_z, le_z, non_neg}
use mir.Syntax.{Width, w16, w64}
use mir.Val.{to_z, of_z, hbits, SFits, Fits}
use mir.Facts.{to_z-of_z, Fits-nat_abs}
use Rattle.base.specs.Ints.{eq_z, far}

-- what a copy of an element of a slice, or a call's result, gives
pub back : (w : Width) (z : ℤ) → mag z < 2 ^ hbits w → to_z w (of_z w z) ≡ z
back w z h = to_z-of_z (record { sfits = h })

-- what a callee ensures of a number that it was handed, said of the number
pub by_value : {A : Type 0} {w : Width} {z : ℤ} {r : A} (f : ℤ → A) → SFits w z → r ≡ f (to_z w (of_z w z)) → r ≡ f z
by_value f h e = rw (to_z-of_z h) at e

pub by_values : {A : Type 0} {w : Width} {a b : ℤ} {r : A} (f : ℤ → ℤ → A) → SFits w a → SFits w b → r ≡ f (to_z w (of_z w a)) (to_z w (of_z w b)) → r ≡ f a b
by_values f h k e = rw (to_z-of_z h, to_z-of_z k) at e

-- the same where the number is another callee's result
pub by_result : (w : Width) {A : Type 0} {z v : ℤ} {r : A} (f : ℤ → A) → mag z < 2 ^ hbits w → z ≡ v → r ≡ f (to_z w (of_z w z)) → r ≡ f v
by_result w {z = z} f h q e = e ∙ ap f (back w z h ∙ q)

pub never : {X : Type 0} → false ≡ true → X
never e = let z : ◌≡◌ {A = ℕ} 0 1 = cc in absurd (omega arith)

-- a signed test with its operands read back is the test itself
pub lt_z-back : {w : Width} {a b : ℤ} {t : Bool} → SFits w a → SFits w b → lt_z (to_z w (of_z w a)) (to_z w (of_z w b)) ≡ t → lt_z a b ≡ t
lt_z-back h k e = rw (to_z-of_z h, to_z-of_z k) at e

pub le_z-back : {w : Width} {a b : ℤ} {t : Bool} → SFits w a → SFits w b → le_z (to_z w (of_z w a)) (to_z w (of_z w b)) ≡ t → le_z a b ≡ t
le_z-back h k e = rw (to_z-of_z h, to_z-of_z k) at e

-- ---- a number that is not negative, as a number without a sign
non_negative : (z : ℤ) → lt_z z (pos 0) ≡ false → T (non_neg z)
non_negative (pos n) e = tt
non_negative (negsuc n) e = never (sym e)

-- what `z as usize` asks
pub as-usize : {w : Width} {z : ℤ} → T (ltb (hbits w) 64) → SFits w z → lt_z (to_z w (of_z w z)) (pos 0) ≡ false
    → T (non_neg (to_z w (of_z w z))) × Fits w64 (nat_abs (to_z w (of_z w z)))
as-usize {w} {z} n h e = rw (to_z-of_z h) (non_negative z (rw (to_z-of_z h) at e), Fits-nat_abs n h)

-- ---- the tests
pub near-abs : (z : ℤ) → far z ≡ false → nat_abs z ≤ 65536
unfolding far
near-abs z e = ltb-false 65536 (nat_abs z) e

-- `==` compares the bits
eq-by : (a b : ℕ) (t : Bool) → a < 32768 → b < 32768 → eqb a b ≡ t → eqb (65536 - suc a) (65536 - suc b) ≡ t
eq-by a b true h k e = eq-eqb (65536 - suc a) (65536 - suc b) (omega (arith, eqb-true a b e))
eq-by a b false h k e = ne_eqb (65536 - suc a) (65536 - suc b) (λ q. eqb-false a b e (omega arith))

eq-bits : (a b : ℤ) → mag a < 32768 → mag b < 32768 → eqb (of_z w16 a) (of_z w16 b) ≡ eq_z a b
unfolding eq_z
eq-bits (pos a) (pos b) h k = refl
eq-bits (pos a) (negsuc b) h k = ne_eqb a (65536 - suc b) (λ q. omega arith)
eq-bits (negsuc a) (pos b) h k = ne_eqb (65536 - suc a) b (λ q. omega arith)
eq-bits (negsuc a) (negsuc b) h k = eq-by a b (eqb a b) h k refl

pub eq-back : {a b : ℤ} → SFits w16 a → SFits w16 b → eqb (of_z w16 a) (of_z w16 b) ≡ eq_z a b
eq-back {a} {b} h k = eq-bits a b h.sfits k.sfits

-- an index equals itself, and equal indices are the same
pub eq_z-same : (a : ℤ) → eq_z a a ≡ true
unfolding eq_z
eq_z-same (pos a) = eq-eqb a a refl
eq_z-same (negsuc a) = eq-eqb a a refl

pub same_index : (a b : ℤ) → eq_z a b ≡ true → a ≡ b
unfolding eq_z
same_index (pos a) (pos b) e = cc (eqb-true a b e)
same_index (pos a) (negsuc b) e = never e
same_index (negsuc a) (pos b) e = never e
same_index (negsuc a) (negsuc b) e = cc (eqb-true a b e)
