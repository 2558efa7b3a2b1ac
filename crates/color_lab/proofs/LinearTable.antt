-- The table: each of its 245 doubles is the nearest one to its exact value, and lies from 0 to 1. One test that antt computes over the whole table,
-- and one law that turns it into the rule at each byte. Assumes nothing.
use mathlib.Core.Path.{◌≡◌, refl, sym, ap, ◌∙◌, subst}
use mathlib.Core.Logic.{◌⊎◌, inl, inr}
use mathlib.Core.Bool.{Bool, true, ◌&&◌}
use mathlib.Core.List.{List, [], ◌∷◌, map}
use Prim.Native.Nat.{ℕ, zero, suc, ◌+◌, ◌-◌, ◌*◌, ◌^◌, ◌≤◌, ◌<◌}
use native.Mathlib.Nat.{add-zero, add-suc, suc-add, le_of_suc-le-suc, not-suc-le-zero, eq-or-lt_of_le}
use native.Mathlib.Omega.{arith}
use lib.Dec.{T}
use lib.IntN.{pos}
use lib.ListN.{length, get_or}
use lib.Ieee.{Float, nan, binary64, of_bits, to_bits, of_int, round, div, le, lt, eq}
use lib.Ieee.Fits.{and_l, and_r}
use borrow.Author.Tests.{le-leb, lt-leb}
use Rattle.color_doubles.specs.Arithmetic.{decimal}
use Rattle.color_doubles.specs.NearestDouble.{units_of, above_middle, nearest_double, NoneNearer}
use Rattle.color_lab.specs.Curve.{linear_of, linear_from, linear_table, Linear}
use Rattle.color_lab.specs.Convert.{is_linear}
use Rattle.color_doubles.proofs.Floats.{bits_back}
use Rattle.color_doubles.proofs.Units.{below_or_not}
use Rattle.color_doubles.proofs.NearestDouble.{nearestTest, Passed, passed}
use Rattle.color_lab.proofs.LinearBits.{linear_bits}

abbrev numerator : ℕ → ℕ
numerator c = (40 * c + 561) ^ 12

abbrev denominator : ℕ
denominator = 10761 ^ 12

-- ---- the rule at one byte, and at all bytes from c on
unfoldable right : ℕ → ℕ → Bool
right c b = nearestTest 5 (numerator c) denominator b && is_linear (of_bits binary64 b)

unfoldable all_right : ℕ → List ℕ → Bool
all_right c [] = true
all_right c (b ∷ bs) = right c b && all_right (suc c) bs

table-right : T (all_right 11 linear_bits)
unfolding all_right right nearestTest above_middle units_of is_linear decimal of_bits round le lt eq linear_bits
table-right = tt

record AtByte (c b : ℕ) : Type 0 where
  passes : Passed 5 (numerator c) denominator b
  linear : T (is_linear (of_bits binary64 b))

at_byte : (c b : ℕ) → T (right c b) → AtByte c b
unfolding right
at_byte c b t =
    record {
      passes = passed 5 (numerator c) denominator b (and_l (nearestTest 5 (numerator c) denominator b) (is_linear (of_bits binary64 b)) t);
      linear = and_r (nearestTest 5 (numerator c) denominator b) (is_linear (of_bits binary64 b)) t;
    }

-- the value of a byte above 10, by its pattern
high_value : (c b : ℕ) → 10 < c → AtByte c b → linear_of c ≡ of_bits binary64 b
unfolding linear_of nearest_double
high_value c b h r = rw (lt-leb c 10 h) (ap (of_bits binary64) r.passes.found)

-- ---- the table is the curve's values
matched : (c : ℕ) (bs : List ℕ) → 10 < c → T (all_right c bs) → map (of_bits binary64) bs ≡ linear_from c (length bs)
unfolding all_right linear_from
matched c [] h t = refl
matched c (b ∷ bs) h t =
    let e = high_value c b h (at_byte c b (and_l (right c b) (all_right (suc c) bs) t)) in
    let es = matched (suc c) bs (omega arith) (and_r (right c b) (all_right (suc c) bs) t) in
    cc

pub table_is : map (of_bits binary64) linear_bits ≡ linear_table
unfolding linear_table linear_bits
table_is = matched 11 linear_bits (omega arith) table-right

linear-at : (c n k : ℕ) → k < n → get_or (linear_from c n) k nan ≡ linear_of (c + k)
unfolding linear_from
linear-at c zero k h = absurd (not-suc-le-zero h)
linear-at c (suc n) zero h = ap linear_of (sym (add-zero c))
linear-at c (suc n) (suc k) h = linear-at (suc c) n k (le_of_suc-le-suc h) ∙ ap linear_of (suc-add c k ∙ sym (add-suc c k))

-- ---- each byte's value
entry : (c : ℕ) (bs : List ℕ) (k : ℕ) → k < length bs → T (all_right c bs) → AtByte (c + k) (get_or bs k 0)
unfolding all_right
entry c [] k h t = absurd (not-suc-le-zero h)
entry c (b ∷ bs) zero h t = rw (add-zero c) (at_byte c b (and_l (right c b) (all_right (suc c) bs) t))
entry c (b ∷ bs) (suc k) h t =
    subst (λ (d : ℕ). AtByte d (get_or bs k 0)) (suc-add c k ∙ sym (add-suc c k)) (entry (suc c) bs k (le_of_suc-le-suc h) (and_r (right c b) (all_right (suc c) bs) t))

abbrev bits_of : ℕ → ℕ
bits_of c = get_or linear_bits (c - 11) 0

high-entry : (c : ℕ) → 10 < c → c ≤ 255 → AtByte c (bits_of c)
unfolding linear_bits
high-entry c l u = subst (λ (d : ℕ). AtByte d (bits_of c)) (back c l) (entry 11 linear_bits (c - 11) (omega arith) table-right)
  where
    back : (c : ℕ) → 10 < c → 11 + (c - 11) ≡ c
    back c l = omega arith

pub linear-high : (t : List Float) (c : ℕ) → t ≡ linear_table → 10 < c → c ≤ 255 → Linear c (get_or t (c - 11) nan)
unfolding linear_table
linear-high t c e l u =
    let r = high-entry c l u in
    let v = high_value c (bits_of c) l r in
    let read : get_or t (c - 11) nan ≡ linear_of c = ap (λ (x : List Float). get_or x (c - 11) nan) e ∙ linear-at 11 245 (c - 11) (omega arith) ∙ ap linear_of (back c l) in
    let kept = bits_back (bits_of c) (small (bits_of c) r.passes.small) in
    record { value = read; nearest = λ _. subst (NoneNearer 5 (numerator c) denominator) (sym (ap (to_bits binary64) (read ∙ v) ∙ kept)) r.passes.nearest }
  where
    back : (c : ℕ) → 10 < c → 11 + (c - 11) ≡ c
    back c l = omega arith

    small : (b : ℕ) → b < 2 ^ 62 → b ≤ 0x7ff0_0000_0000_0000
    small b h = omega arith

pub linear-low : (c : ℕ) → c ≤ 10
    → Linear c (div binary64 (div binary64 (of_int binary64 (pos c)) (of_bits binary64 0x406f_e000_0000_0000)) (of_bits binary64 0x4029_d70a_3d70_a3d7))
unfolding linear_of decimal round of_bits
linear-low c h = record { value = simp (le-leb _ _ h); nearest = λ l. absurd (never c h l) }
  where
    never : (c : ℕ) → c ≤ 10 → 10 < c → ⊥
    never c h l = omega arith

-- ---- every byte's value lies from 0 to 1
unfoldable low_linear : ℕ → Bool
low_linear zero = is_linear (linear_of 0)
low_linear (suc c) = is_linear (linear_of (suc c)) && low_linear c

low-linear : T (low_linear 10)
unfolding low_linear is_linear linear_of decimal round of_int div le lt eq
low-linear = tt

low-at : (n c : ℕ) → c ≤ n → T (low_linear n) → T (is_linear (linear_of c))
unfolding low_linear
low-at zero c h t = subst (λ (d : ℕ). T (is_linear (linear_of d))) (none c h) t
  where
    none : (c : ℕ) → c ≤ 0 → 0 ≡ c
    none c h = omega arith
low-at (suc n) c h t = go (eq-or-lt_of_le h) (low-at n c)
  where
    go : (c ≡ suc n) ⊎ (c < suc n) → (c ≤ n → T (low_linear n) → T (is_linear (linear_of c))) → T (is_linear (linear_of c))
    go (inl e) less = subst (λ (d : ℕ). T (is_linear (linear_of d))) (sym e) (and_l (is_linear (linear_of (suc n))) (low_linear n) t)
    go (inr l) less = less (le_of_suc-le-suc l) (and_r (is_linear (linear_of (suc n))) (low_linear n) t)

pub linear-linear : (c : ℕ) → c ≤ 255 → T (is_linear (linear_of c))
linear-linear c h = go (below_or_not c 11)
  where
    go : (c < 11) ⊎ (11 ≤ c) → T (is_linear (linear_of c))
    go (inl l) = low-at 10 c (le_of_suc-le-suc l) low-linear
    go (inr l) = subst (λ (x : Float). T (is_linear x)) (sym (high_value c (bits_of c) l (high-entry c l h))) (high-entry c l h).linear
