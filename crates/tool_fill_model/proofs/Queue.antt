-- Cells that hold a mark and a queue's entry: what a push changes. Assumes nothing.
use Prim.Native.Nat.{ℕ, zero, suc, ◌+◌, ◌*◌, ◌/◌, ◌%◌, ◌≤◌, ◌<◌}
use mathlib.Core.Path.{◌≡◌, ap, ◌∙◌}
use mathlib.Core.List.{List, [], ◌∷◌}
use native.Mathlib.Omega.{arith}
use native.Mathlib.Decide.{ℕ_discrete}
use native.Mathlib.Nat.{le_of_suc-le-suc, not-suc-le-zero}
use lib.ListN.{length, get_or, set, length-set}
use lib.Seq.{get_or-set_same, get_or-set_other}
use Rattle.tool_fill_model.specs.Cells.{odds, marked, queued, Pushed}

pub odds-set : (l : List ℕ) (i x : ℕ) → i < length l → odds (set l i x) + get_or l i 0 % 2 ≡ odds l + x % 2
unfolding odds
odds-set [] i x h = absurd (not-suc-le-zero h)
odds-set (y ∷ l) zero x h = omega arith
odds-set (y ∷ l) (suc i) x h = omega (arith, odds-set l i x (le_of_suc-le-suc h))

pub odds-le : (l : List ℕ) → odds l ≤ length l
unfolding odds
odds-le [] = omega arith
odds-le (y ∷ l) = omega (arith, odds-le l)

pub odds-lt : (l : List ℕ) (i : ℕ) → i < length l → (get_or l i 0 % 2 ≡ 1 → ⊥) → odds l < length l
unfolding odds
odds-lt [] i h n = absurd (not-suc-le-zero h)
odds-lt (y ∷ l) zero h n = omega (arith, odds-le l)
odds-lt (y ∷ l) (suc i) h n = omega (arith, odds-lt l i (le_of_suc-le-suc h) n)

module _ (s : List ℕ) (tail q : ℕ) (hq : q < length s) (ht : tail < length s) (even : get_or s q 0 % 2 ≡ 1 → ⊥) where
  abbrev s₁ : List ℕ
  s₁ = set s q (get_or s q 0 + 1)

  abbrev pushed : List ℕ
  pushed = set s₁ tail (get_or s₁ tail 0 % 2 + 2 * q)

  abbrev cell : ℕ
  cell = get_or s₁ tail 0

  long : tail < length s₁
  long = rw (length-set s q (get_or s q 0 + 1)) ht

  at_tail : get_or pushed tail 0 ≡ cell % 2 + 2 * q
  at_tail = get_or-set_same s₁ tail (cell % 2 + 2 * q) 0 long

  -- a mark is that of s₁
  marks₁ : (p : ℕ) → get_or pushed p 0 % 2 ≡ get_or s₁ p 0 % 2
  marks₁ p = elim (ℕ_discrete p tail) [
    | yes e ↦ rw e (ap (λ (x : ℕ). x % 2) at_tail ∙ parity cell q)
    | no n ↦ ap (λ (x : ℕ). x % 2) (get_or-set_other s₁ tail p (cell % 2 + 2 * q) 0 n)
  ]
    where
      parity : (a b : ℕ) → (a % 2 + 2 * b) % 2 ≡ a % 2
      parity a b = omega arith

  -- an entry of s₁ is that of s
  entries₁ : (i : ℕ) → get_or s₁ i 0 / 2 ≡ get_or s i 0 / 2
  entries₁ i = elim (ℕ_discrete i q) [
    | yes e ↦ rw e (ap (λ (x : ℕ). x / 2) (get_or-set_same s q (get_or s q 0 + 1) 0 hq) ∙ half (get_or s q 0) even)
    | no n ↦ ap (λ (x : ℕ). x / 2) (get_or-set_other s q i (get_or s q 0 + 1) 0 n)
  ]
    where
      half : (a : ℕ) → (a % 2 ≡ 1 → ⊥) → (a + 1) / 2 ≡ a / 2
      half a n = omega arith

  pub is-pushed : Pushed s tail q (queued (marked s q) tail q)
  unfolding queued marked
  is-pushed = record {
    marks = λ p n. marks₁ p ∙ ap (λ (x : ℕ). x % 2) (get_or-set_other s q p (get_or s q 0 + 1) 0 n);
    mark = marks₁ q ∙ ap (λ (x : ℕ). x % 2) (get_or-set_same s q (get_or s q 0 + 1) 0 hq) ∙ odd (get_or s q 0) even;
    entries = λ i n. ap (λ (x : ℕ). x / 2) (get_or-set_other s₁ tail i (cell % 2 + 2 * q) 0 n) ∙ entries₁ i;
    entry = ap (λ (x : ℕ). x / 2) at_tail ∙ high cell q;
    total = count;
  }
    where
      odd : (a : ℕ) → (a % 2 ≡ 1 → ⊥) → (a + 1) % 2 ≡ 1
      odd a n = omega arith

      high : (a b : ℕ) → (a % 2 + 2 * b) / 2 ≡ b
      high a b = omega arith

      count : odds pushed ≡ suc (odds s)
      count = omega (arith, odds-set s₁ tail (cell % 2 + 2 * q) long, odds-set s q (get_or s q 0 + 1) hq)
