-- Every value of a curve that fits lies from 0 to 1, so that no colour is refused and L, a, b are finite. Assumes nothing.
use mathlib.Core.Path.{◌≡◌, refl, sym, subst}
use mathlib.Core.Bool.{Bool, true, false, not, ◌&&◌, ◌||◌}
use mathlib.Core.List.{List, [], ◌∷◌}
use Prim.Native.Nat.{ℕ, zero, suc, ◌+◌, ◌*◌, ◌≤◌, ◌<◌}
use native.Mathlib.Nat.{le_of_suc-le-suc}
use native.Mathlib.Omega.{arith}
use borrow.Author.Tests.{not-true, not-false, eq-eqb, ne_eqb, lt-ltb}
use lib.Dec.{T, eqb, ltb, ltb→lt, eqb→eq}
use lib.IntN.{ℤ}
use lib.Ieee.{Float, nan, inf, fin, binary64, up, down, round, lt, le, eq, ne}
use lib.Ieee.Fits.{and_i, and_l, and_r, down_pos}
use lib.ListN.{length, get_or}
use Rattle.color_doubles.specs.Arithmetic.{decimal}
use Rattle.color_doubles.proofs.Signs.{Plus, infinity, number}
use Rattle.color_doubles.proofs.Order.{lt-le→lt, lt→le}
use Rattle.color_lab.specs.Convert.{is_linear}
use Rattle.color_curve.specs.Curve.{rising, value_at, fit_curve}

-- ---- above what is not negative, and above a zero of either sign, a number is not negative
above-plus : {x : Float} (y : Float) → Plus x → T (lt x y) → Plus y
unfolding lt
above-plus nan infinity h = absurd h
above-plus nan (number m e) h = absurd h
above-plus (inf true) infinity h = absurd h
above-plus (inf true) (number m e) h = absurd h
above-plus (inf false) p h = infinity
above-plus (fin true n d) infinity h = absurd h
above-plus (fin true n d) (number m e) h = absurd h
above-plus (fin false n d) p h = number n d

none : (a b c : ℕ) → a ≡ 0 → b < a * c → ⊥
none a b c e h = never b c (subst (λ (n : ℕ). b < n * c) e h)
  where
    never : (b c : ℕ) → b < 0 * c → ⊥
    never b c h = omega arith

-- a zero's numerator
zero-units : (s : Bool) (m : ℕ) (e : ℤ) → T (eq (fin s m e) (decimal 0 0)) → m * up e ≡ 0
unfolding decimal round eq
zero-units s m e z = plain (m * up e) (down e) (eqb→eq (m * up e * 1) (0 * down e) (and_l (eqb (m * up e * 1) (0 * down e)) _ z))
  where
    plain : (u d : ℕ) → u * 1 ≡ 0 * d → u ≡ 0
    plain u d e = omega arith

above_zero : (x y : Float) → T (eq x (decimal 0 0)) → T (lt x y) → Plus y
unfolding decimal round lt eq
above_zero nan y z h = absurd z
above_zero (inf s) y z h = absurd z
above_zero (fin s m e) nan z h = absurd h
above_zero (fin s m e) (inf true) z h = absurd h
above_zero (fin s m e) (inf false) z h = infinity
above_zero (fin s m e) (fin false n d) z h = number n d
above_zero (fin false m e) (fin true n d) z h = absurd h
above_zero (fin true m e) (fin true n d) z h = absurd (none (m * up e) (n * up d * down e) (down d) (zero-units true m e z) (ltb→lt _ _ h))

-- ---- what is not negative is at least 0, and a zero of either sign lies from 0 to 1
or_right : (a b : Bool) → T b → T (a || b)
or_right true b h = tt
or_right false b h = h

zero-equal : (d : ℕ) → eqb (0 * d) 0 ≡ true
zero-equal d = eq-eqb (0 * d) 0 (omega arith)

zero-less : (d : ℕ) → 0 < d → ltb 0 (1 * d) ≡ true
zero-less d h = lt-ltb 0 (1 * d) (omega (arith, h))

-- 0 is at most u / d
at-least-none : (u d : ℕ) → T (ltb (0 * d) (u * 1) || (eqb (0 * d) (u * 1) && true))
at-least-none zero d = or_right (ltb (0 * d) 0) (eqb (0 * d) 0 && true) (rw (zero-equal d) tt)
at-least-none (suc u) d = rw (lt-ltb (0 * d) (suc u * 1) (omega arith)) tt

at_least : {x : Float} → Plus x → T (le (decimal 0 0) x)
unfolding decimal round le lt
at_least infinity = tt
at_least (number m e) = at-least-none (m * up e) (down e)

plus-linear : {x : Float} → Plus x → T (le x (decimal 1 0)) → T (is_linear x)
unfolding is_linear
plus-linear {x} p h = and_i (le (decimal 0 0) x) (le x (decimal 1 0)) (at_least p) h

-- and -0 lies from 0 to 1
minus-none : (d : ℕ) → 0 < d → T ((eqb (0 * d) 0 && eqb (0 * d) 0) && (ltb 0 (0 + 1 * d) || (eqb 0 (1 * d) && true)))
minus-none d h = rw (zero-equal d, lt-ltb 0 (0 + 1 * d) (omega (arith, h))) tt

zero-linear : (x : Float) → T (eq x (decimal 0 0)) → T (is_linear x)
unfolding is_linear decimal round le lt eq
zero-linear nan z = absurd z
zero-linear (inf s) z = absurd z
zero-linear (fin false m e) z =
    rw (zero-units false m e z) (and_i (ltb (0 * down e) 0 || (eqb (0 * down e) 0 && true)) (ltb 0 (1 * down e) || (eqb 0 (1 * down e) && true)) (at-least-none 0 (down e)) (rw (zero-less (down e) (down_pos e)) tt))
zero-linear (fin true m e) z = rw (zero-units true m e z) (minus-none (down e) (down_pos e))

-- ---- so the values of a rising list that ends at 1 lie from 0 to 1, from one on that is not negative
one-plus : Plus (decimal 1 0)
unfolding decimal round
one-plus = number _ _

module _ (x y : Float) (l : List Float) (p : Plus x) (less : T (lt x y)) (rest : (i : ℕ) → i ≤ length l → T (is_linear (value_at (y ∷ l) i))) where
  before : (i : ℕ) → i ≤ suc (length l) → T (is_linear (value_at (x ∷ y ∷ l) i))
  unfolding is_linear
  before zero h =
      plus-linear p (lt→le x (decimal 1 0) (lt-le→lt p (above-plus y p less) one-plus less (and_r (le (decimal 0 0) y) (le y (decimal 1 0)) (rest 0 (omega arith)))))
  before (suc i) h = rest i (le_of_suc-le-suc h)

chain : (x : Float) (l : List Float) → Plus x → T (rising (x ∷ l)) → T (eq (value_at (x ∷ l) (length l)) (decimal 1 0))
    → (i : ℕ) → i ≤ length l → T (is_linear (value_at (x ∷ l) i))
unfolding rising le
chain x [] p r e zero h = plus-linear p (or_right (lt x (decimal 1 0)) (eq x (decimal 1 0)) e)
chain x [] p r e (suc i) h = absurd (never i h)
  where
    never : (i : ℕ) → suc i ≤ 0 → ⊥
    never i h = omega arith
chain x (y ∷ l) p r e i h =
    let less = and_l (lt x y) (rising (y ∷ l)) r in
    before x y l p less (chain y l (above-plus y p less) (and_r (lt x y) (rising (y ∷ l)) r) e) i h

-- ---- the rules of a curve, apart
pub record Rules (values : List Float) : Type 0 where
  pub count : length values ≡ 256
  pub first : T (eq (value_at values 0) (decimal 0 0))
  pub last : T (eq (value_at values 255) (decimal 1 0))
  pub rises : T (rising values)

pub rules : (values : List Float) → fit_curve values ≡ true → Rules values
unfolding fit_curve
rules values h =
    let a = eq (value_at values 0) (decimal 0 0) in
    let b = eq (value_at values 255) (decimal 1 0) in
    let t = subst T (sym h) tt in
    let t1 = and_r (eqb (length values) 256) (a && (b && rising values)) t in
    let t2 = and_r a (b && rising values) t1 in
    record {
      count = eqb→eq _ _ (and_l (eqb (length values) 256) (a && (b && rising values)) t);
      first = and_l a (b && rising values) t1;
      last = and_l b (rising values) t2;
      rises = and_r b (rising values) t2;
    }

-- as the code goes through them
module _ (values : List Float) where
  pub unfit-count : (length values ≡ 256 → ⊥) → false ≡ fit_curve values
  unfolding fit_curve
  unfit-count h = rw (ne_eqb (length values) 256 h) refl

  module _ (n : length values ≡ 256) where
    pub unfit-first : ne (value_at values 0) (decimal 0 0) ≡ true → false ≡ fit_curve values
    unfolding fit_curve ne
    unfit-first h = rw (eq-eqb (length values) 256 n, not-true (eq (value_at values 0) (decimal 0 0)) h) refl

    pub unfit-last : ne (value_at values 0) (decimal 0 0) ≡ false → ne (value_at values 255) (decimal 1 0) ≡ true → false ≡ fit_curve values
    unfolding fit_curve ne
    unfit-last g h = rw (eq-eqb (length values) 256 n, not-false (eq (value_at values 0) (decimal 0 0)) g, not-true (eq (value_at values 255) (decimal 1 0)) h) refl

    pub fit-rising : ne (value_at values 0) (decimal 0 0) ≡ false → ne (value_at values 255) (decimal 1 0) ≡ false → rising values ≡ fit_curve values
    unfolding fit_curve ne
    fit-rising g h = rw (eq-eqb (length values) 256 n, not-false (eq (value_at values 0) (decimal 0 0)) g, not-false (eq (value_at values 255) (decimal 1 0)) h) refl

pub fit-linear : (values : List Float) → Rules values → (b : ℕ) → b ≤ 255 → T (is_linear (value_at values b))
unfolding rising
fit-linear [] f b h = absurd (never 0 (omega arith) f.count)
  where
    never : (n : ℕ) → n ≤ 1 → n ≡ 256 → ⊥
    never n h e = omega arith
fit-linear (x ∷ []) f b h = absurd (never 1 (omega arith) f.count)
  where
    never : (n : ℕ) → n ≤ 1 → n ≡ 256 → ⊥
    never n h e = omega arith
fit-linear (x ∷ y ∷ l) f zero h = zero-linear x f.first
fit-linear (x ∷ y ∷ l) f (suc b) h =
    let less = and_l (lt x y) (rising (y ∷ l)) f.rises in
    let long : length l ≡ 254 = count (length l) f.count in
    chain y l (above_zero x y f.first less) (and_r (lt x y) (rising (y ∷ l)) f.rises)
    (subst (λ (n : ℕ). T (eq (value_at (y ∷ l) n) (decimal 1 0))) (sym long) f.last) b
    (at_most b (length l) h long)
  where
    count : (n : ℕ) → suc (suc n) ≡ 256 → n ≡ 254
    count n e = omega arith

    at_most : (b n : ℕ) → suc b ≤ 255 → n ≡ 254 → b ≤ n
    at_most b n h e = omega arith
