-- `units_of`: it grows with the pattern, and it is the double's value. Assumes nothing.
use mathlib.Core.Path.{◌≡◌, sym, ap, ◌∙◌, subst}
use mathlib.Core.Logic.{◌⊎◌, inl, inr}
use Prim.Native.Nat.{ℕ, zero, suc, ◌+◌, ◌-◌, ◌*◌, ◌/◌, ◌%◌, ◌^◌, ◌≤◌, ◌<◌}
use native.Mathlib.Nat.{le_trans, le_of_eq, le_of_lt, lt_of_lt_of_le, lt_of_le_of_lt, eq-or-lt_of_le, add_assoc, add-zero, mul_assoc, mul-one, mul-lt-mul_of_pos_right, pow-succ', mod-eq_of_lt}
use native.Mathlib.Omega.{arith}
use mathlib.Core.Bool.{Bool, true, false, not, cond}
use lib.Dec.{T, ltb, eqb, ltb→lt, nltb→le}
use lib.Pow.{pow_pos}
use lib.Ieee.{Float, nan, inf, binary64, of_bits, of_fields, odd}
use lib.Ieee.Exact.{HasValue, odd_sign}
use borrow.Author.Tests.{lt-ltb, le-ltb, lt-leb, ne_eqb}
use Rattle.color_doubles.specs.NearestDouble.{units_of}

pub below_or_not : (i a : ℕ) → (i < a) ⊎ (a ≤ i)
below_or_not i a = go (ltb i a) (ltb→lt i a) (nltb→le i a)
  where
    go : (t : Bool) → (T t → i < a) → (T (not t) → a ≤ i) → (i < a) ⊎ (a ≤ i)
    go true h k = inl (h tt)
    go false h k = inr (k tt)

-- ---- a pattern by its field and its digits
pub units-normal : (g : ℕ) → 2 ^ 52 ≤ g → units_of g ≡ (2 ^ 52 + g % 2 ^ 52) * 2 ^ (g / 2 ^ 52 - 1)
unfolding units_of
units-normal g h = rw (le-ltb g (2 ^ 52) h)

units-low : (g : ℕ) → g < 2 ^ 52 → units_of g ≡ g
unfolding units_of
units-low g h = rw (lt-ltb g (2 ^ 52) h)

pub units-at : (f j : ℕ) → 0 < f → j < 2 ^ 52 → units_of (f * 2 ^ 52 + j) ≡ (2 ^ 52 + j) * 2 ^ (f - 1)
units-at f j h k = units-normal (f * 2 ^ 52 + j) (omega arith) ∙ rw (digits f j k, field f j k)
  where
    digits : (f j : ℕ) → j < 2 ^ 52 → (f * 2 ^ 52 + j) % 2 ^ 52 ≡ j
    digits f j k = omega arith

    field : (f j : ℕ) → j < 2 ^ 52 → (f * 2 ^ 52 + j) / 2 ^ 52 ≡ f
    field f j k = omega arith

-- the next pattern up stands for one step more, over the edge of a field too
pub units-next : (f j : ℕ) → 0 < f → j < 2 ^ 52 → units_of (f * 2 ^ 52 + j + 1) ≡ (2 ^ 52 + j + 1) * 2 ^ (f - 1)
units-next f j h k = go (eq-or-lt_of_le k)
  where
    carried : (f j : ℕ) → suc j ≡ 2 ^ 52 → f * 2 ^ 52 + j + 1 ≡ (f + 1) * 2 ^ 52 + 0
    carried f j e = omega arith

    one_up : (f : ℕ) → 0 < f → f + 1 - 1 ≡ suc (f - 1)
    one_up f h = omega arith

    twofold : (j : ℕ) → suc j ≡ 2 ^ 52 → 2 ^ 52 + j + 1 ≡ 2 ^ 52 * 2
    twofold j e = omega arith

    go : (suc j ≡ 2 ^ 52) ⊎ (suc j < 2 ^ 52) → units_of (f * 2 ^ 52 + j + 1) ≡ (2 ^ 52 + j + 1) * 2 ^ (f - 1)
    go (inl e) =
        ap units_of (carried f j e)
        ∙ units-at (f + 1) 0 (omega arith) (omega arith)
        ∙ ap (λ (x : ℕ). (2 ^ 52 + 0) * x) (ap (λ (x : ℕ). 2 ^ x) (one_up f h) ∙ pow-succ' 2 (f - 1))
        ∙ sym (ap (λ (x : ℕ). x * 2 ^ (f - 1)) (twofold j e) ∙ mul_assoc (2 ^ 52) 2 (2 ^ (f - 1)))
    go (inr l) =
        ap units_of (add_assoc (f * 2 ^ 52) j 1)
        ∙ units-at f (j + 1) h (omega arith)
        ∙ ap (λ (x : ℕ). x * 2 ^ (f - 1)) (sym (add_assoc (2 ^ 52) j 1))

-- ---- the value grows with the pattern
units-up : (g : ℕ) → units_of g < units_of (g + 1)
units-up g = go (below_or_not (g + 1) (2 ^ 52)) (below_or_not g (2 ^ 52))
  where
    split : (g : ℕ) → g / 2 ^ 52 * 2 ^ 52 + g % 2 ^ 52 ≡ g
    split g = omega arith

    edge : (g : ℕ) → g < 2 ^ 52 → 2 ^ 52 ≤ g + 1 → g + 1 ≡ 1 * 2 ^ 52 + 0
    edge g h k = omega arith

    one_more : (n P : ℕ) → 0 < P → n * P < (n + 1) * P
    one_more n P h = mul-lt-mul_of_pos_right (omega arith) h

    go : (g + 1 < 2 ^ 52) ⊎ (2 ^ 52 ≤ g + 1) → (g < 2 ^ 52) ⊎ (2 ^ 52 ≤ g) → units_of g < units_of (g + 1)
    go (inl l) k = rw (units-low g (omega arith), units-low (g + 1) l) (omega arith)
    go (inr l) (inl k) = rw (units-low g k, edge g k l, units-at 1 0 (omega arith) (omega arith)) k
    go (inr l) (inr k) =
        lt_of_le_of_lt (le_of_eq (units-normal g k))
        (lt_of_lt_of_le (one_more (2 ^ 52 + g % 2 ^ 52) (2 ^ (g / 2 ^ 52 - 1)) (pow_pos (g / 2 ^ 52 - 1)))
        (le_of_eq (sym (ap (λ (x : ℕ). units_of (x + 1)) (sym (split g)) ∙ units-next (g / 2 ^ 52) (g % 2 ^ 52) (omega arith) (omega arith)))))

units-add : (g k : ℕ) → units_of g ≤ units_of (g + k)
units-add g zero = le_of_eq (ap units_of (sym (add-zero g)))
units-add g (suc k) = le_trans (units-add g k) (le_trans (le_of_lt (units-up (g + k))) (le_of_eq (ap units_of (same g k))))
  where
    same : (g k : ℕ) → g + k + 1 ≡ g + suc k
    same g k = omega arith

pub units_mono : (g h : ℕ) → g ≤ h → units_of g ≤ units_of h
units_mono g h l = subst (λ (x : ℕ). units_of g ≤ units_of x) (same g h l) (units-add g (h - g))
  where
    same : (g h : ℕ) → g ≤ h → g + (h - g) ≡ h
    same g h l = omega arith

pub units_lt : (g h : ℕ) → g < h → units_of g < units_of h
units_lt g h l = lt_of_lt_of_le (units-up g) (units_mono (g + 1) h (omega arith))

-- ---- `units_of g` units of 2 ^ -1074 are the value of the double with the pattern g, for each finite double that is not negative
normal : (g : ℕ) → 2 ^ 52 ≤ g → g < 0x7ff0_0000_0000_0000 → of_bits binary64 g ≡ odd 53 false (2 ^ 52 + g % 2 ^ 52) (g / 2 ^ 52 - 1) 1074
unfolding of_bits
normal g l u =
    ap (λ (s : Bool). of_fields binary64 s (g % 2 ^ 63 / 2 ^ 52) (g % 2 ^ 52)) (lt-leb (2 ^ 63) g (omega arith))
    ∙ ap (λ (x : ℕ). of_fields binary64 false (x / 2 ^ 52) (g % 2 ^ 52)) (mod-eq_of_lt (under63 g u))
    ∙ ap (λ (x : ℕ). of_fields binary64 false x (g % 2 ^ 52)) (field g l)
    ∙ fields (g / 2 ^ 52 - 1) (g % 2 ^ 52) (omega arith)
  where
    under63 : (g : ℕ) → g < 0x7ff0_0000_0000_0000 → g < 2 ^ 63
    under63 g u = omega arith

    field : (g : ℕ) → 2 ^ 52 ≤ g → g / 2 ^ 52 ≡ suc (g / 2 ^ 52 - 1)
    field g l = omega arith

    not-ones : (x : ℕ) → x < 2046 → suc x ≡ 2047 → ⊥
    not-ones x h e = omega arith

    fields : (x t : ℕ) → x < 2046 → of_fields binary64 false (suc x) t ≡ odd 53 false (2 ^ 52 + t) x 1074
    fields x t h =
        unfold of_fields in ap (λ (b : Bool). cond b (cond (eqb t 0) (inf false) nan) (odd 53 false (2 ^ 52 + t) x 1074)) (ne_eqb (suc x) 2047 (not-ones x h))

subnormal : (g : ℕ) → g < 2 ^ 52 → of_bits binary64 g ≡ odd 53 false g 0 1074
unfolding of_bits of_fields
subnormal g h =
    ap (λ (s : Bool). of_fields binary64 s (g % 2 ^ 63 / 2 ^ 52) (g % 2 ^ 52)) (lt-leb (2 ^ 63) g (omega arith))
    ∙ ap (λ (x : ℕ). of_fields binary64 false x (g % 2 ^ 52)) (none g h)
    ∙ ap (λ (x : ℕ). odd 53 false x 0 1074) (all g h)
  where
    none : (g : ℕ) → g < 2 ^ 52 → g % 2 ^ 63 / 2 ^ 52 ≡ 0
    none g h = omega arith

    all : (g : ℕ) → g < 2 ^ 52 → g % 2 ^ 52 ≡ g
    all g h = omega arith

pub units-value : (g : ℕ) → g < 0x7ff0_0000_0000_0000 → HasValue (of_bits binary64 g) false (units_of g) (2 ^ 1074)
units-value g u = go (below_or_not g (2 ^ 52))
  where
    go : (g < 2 ^ 52) ⊎ (2 ^ 52 ≤ g) → HasValue (of_bits binary64 g) false (units_of g) (2 ^ 1074)
    go (inl l) =
        subst (λ (x : Float). HasValue x false (units_of g) (2 ^ 1074)) (sym (subnormal g l))
        (subst (λ (a : ℕ). HasValue (odd 53 false g 0 1074) false a (2 ^ 1074)) (mul-one g ∙ sym (units-low g l)) (odd_sign 53 false g 0 1074))
    go (inr l) =
        subst (λ (x : Float). HasValue x false (units_of g) (2 ^ 1074)) (sym (normal g l u))
        (subst (λ (a : ℕ). HasValue (odd 53 false (2 ^ 52 + g % 2 ^ 52) (g / 2 ^ 52 - 1) 1074) false a (2 ^ 1074)) (sym (units-normal g l)) (odd_sign 53 false (2 ^ 52 + g % 2 ^ 52) (g / 2 ^ 52 - 1) 1074))
