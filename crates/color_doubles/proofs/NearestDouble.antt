-- `nearest_pattern` finds the nearest double: none is nearer to the root, and a pattern that passes two comparisons, with its neighbours, is
-- the one found. Assumes nothing.
use mathlib.Core.Path.{◌≡◌, refl, sym, ap, ◌∙◌, subst}
use Prim.Native.Nat.{ℕ, zero, suc, ◌+◌, ◌-◌, ◌*◌, ◌^◌, ◌≤◌, ◌<◌}
use native.Mathlib.Nat.{le_trans, le_of_eq, le_of_lt, lt_of_le_of_lt, add_comm, add-le-add, mul-le-mul_left, pow-le-pow_left, two-pow-succ}
use native.Mathlib.Omega.{arith}
use mathlib.Core.Bool.{Bool, true, false, not, ◌&&◌, cond}
use lib.Dec.{T, ltb, ltb→lt}
use lib.Ieee.Bits.{is_true, is_false}
use lib.Ieee.Fits.{and_l, and_r}
use borrow.Author.Tests.{ltb-true, ltb-false, lt-ltb, le-ltb}
use Rattle.color_doubles.specs.NearestDouble.{units_of, above_middle, greatest, nearest_pattern, NoneNearer}
use Rattle.color_doubles.proofs.Units.{units_mono}

-- ---- what `greatest` finds: f holds there, unless it is 0, and not at the next number
pub record Edge (f : ℕ → Bool) (p : ℕ) : Type 0 where
  pub holds : 0 < p → f p ≡ true
  pub fails : f (p + 1) ≡ false

greatest-edge : (f : ℕ → Bool) (i p : ℕ) → (0 < p → f p ≡ true) → f (p + 2 ^ i) ≡ false → Edge f (greatest i f p)
unfolding greatest
greatest-edge f zero p h k = record { holds = h; fails = k }
greatest-edge f (suc i) p h k =
    by-digit (f (p + 2 ^ i)) refl
    (λ e. greatest-edge f i (p + 2 ^ i) (λ _. e) (subst (λ (q : ℕ). f q ≡ false) (twice p (2 ^ i) (2 ^ suc i) (two-pow-succ i)) k))
    (λ e. greatest-edge f i p h e)
  where
    twice : (p P Q : ℕ) → Q ≡ P + P → p + Q ≡ p + P + P
    twice p P Q e = omega arith

    by-digit : (t : Bool) → f (p + 2 ^ i) ≡ t
        → (f (p + 2 ^ i) ≡ true → Edge f (greatest i f (p + 2 ^ i)))
        → (f (p + 2 ^ i) ≡ false → Edge f (greatest i f p))
        → Edge f (greatest i f (cond t (p + 2 ^ i) p))
    by-digit true e one none = one e
    by-digit false e one none = none e

module _ (k N D : ℕ) where
  abbrev here : ℕ → Bool
  here p = above_middle k N D (p - 1) p

  -- the middles grow with the pattern
  sums : (p q p' q' : ℕ) → p ≤ p' → q ≤ q' → D * (units_of p + units_of q) ^ k ≤ D * (units_of p' + units_of q') ^ k
  sums p q p' q' h l = mul-le-mul_left D (pow-le-pow_left (add-le-add (units_mono p p' h) (units_mono q q' l)) k)

  down : (p q : ℕ) → p ≤ q → here q ≡ true → here p ≡ true
  unfolding above_middle
  down p q h e = lt-ltb _ _ (lt_of_le_of_lt (sums (p - 1) p (q - 1) q (omega arith) h) (ltb-true _ _ e))

  up : (p q : ℕ) → p ≤ q → here p ≡ false → here q ≡ false
  unfolding above_middle
  up p q h e = le-ltb _ _ (le_trans (ltb-false _ _ e) (sums (p - 1) p (q - 1) q (omega arith) h))

  -- ---- none is nearer than the pattern at the edge
  pub edge-nearest : (p : ℕ) → Edge here p → NoneNearer k N D p
  unfolding above_middle
  edge-nearest p e =
      record {
        above = λ g h. le_trans (ltb-false _ _ e.fails) (sums (p + 1 - 1) (p + 1) p g (omega arith) (omega arith));
        below = λ g h. le_trans (sums p g p (p - 1) (omega arith) (omega arith)) (le_trans (le_of_eq (turned p)) (le_of_lt (ltb-true _ _ (e.holds (omega arith)))));
      }
    where
      turned : (p : ℕ) → D * (units_of p + units_of (p - 1)) ^ k ≡ D * (units_of (p - 1) + units_of p) ^ k
      turned p = ap (λ (x : ℕ). D * x ^ k) (add_comm (units_of p) (units_of (p - 1)))

  -- ---- there is one edge, and `nearest_pattern` is there
  apart : (p q : ℕ) → Edge here p → Edge here q → p < q → ⊥
  apart p q e e' h = differ (sym e.fails ∙ down (p + 1) q (omega arith) (e'.holds (omega arith)))
    where
      differ : false ≡ true → ⊥
      differ e = let z : ◌≡◌ {A = ℕ} 0 1 = cc in omega arith

  same : (p q : ℕ) → (p < q → ⊥) → (q < p → ⊥) → p ≡ q
  same p q h l = omega arith

  pub at_edge : (p : ℕ) → p < 2 ^ 63 → Edge here p → nearest_pattern k N D ≡ p
  unfolding nearest_pattern
  at_edge p h e =
      let found = greatest-edge here 63 0 (λ l. absurd (no l)) (up (p + 1) (0 + 2 ^ 63) (omega arith) e.fails) in
      same (greatest 63 here 0) p (apart (greatest 63 here 0) p found e) (apart p (greatest 63 here 0) e found)
    where
      no : 0 < 0 → ⊥
      no l = omega arith

  -- the edge is at p or before it where the root is below the middle of p and the next
  pub at_most : (p : ℕ) → p < 2 ^ 63 → here (p + 1) ≡ false → nearest_pattern k N D ≤ p
  unfolding nearest_pattern
  at_most p h e =
      let found = greatest-edge here 63 0 (λ l. absurd (no l)) (up (p + 1) (0 + 2 ^ 63) (omega arith) e) in
      not-past (greatest 63 here 0) (λ l. differ (sym e ∙ down (p + 1) (greatest 63 here 0) (omega arith) (found.holds (omega arith))))
    where
      no : 0 < 0 → ⊥
      no l = omega arith

      not-past : (q : ℕ) → (p < q → ⊥) → q ≤ p
      not-past q l = omega arith

      differ : false ≡ true → ⊥
      differ e = let z : ◌≡◌ {A = ℕ} 0 1 = cc in omega arith

  -- ---- the edge as one test, which antt computes
  unfoldable pub nearestTest : ℕ → Bool
  nearestTest p = ltb 0 p && (ltb p (2 ^ 62) && (here p && not (here (p + 1))))

  pub record Passed (p : ℕ) : Type 0 where
    pub small : p < 2 ^ 62
    pub found : nearest_pattern k N D ≡ p
    pub nearest : NoneNearer k N D p

  pub passed : (p : ℕ) → T (nearestTest p) → Passed p
  unfolding nearestTest
  passed p t =
      let t1 = and_r (ltb 0 p) (ltb p (2 ^ 62) && (here p && not (here (p + 1)))) t in
      let t2 = and_r (ltb p (2 ^ 62)) (here p && not (here (p + 1))) t1 in
      let s = ltb→lt p (2 ^ 62) (and_l (ltb p (2 ^ 62)) (here p && not (here (p + 1))) t1) in
      let e : Edge here p =
      record { holds = λ _. is_true (here p) (and_l (here p) (not (here (p + 1))) t2); fails = is_false (here (p + 1)) (and_r (here p) (not (here (p + 1))) t2) } in
      record { small = s; found = at_edge p (omega arith) e; nearest = edge-nearest p e }
