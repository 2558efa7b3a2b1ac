-- Ranks are equal exactly where the keys are, and the pass that writes them. Assumes nothing.
use mathlib.Core.Path.{◌≡◌, refl, sym, ap, ◌∙◌}
use mathlib.Core.List.{List}
use Prim.Native.Nat.{ℕ, zero, suc, ◌+◌, ◌<◌, ◌≤◌}
use native.Mathlib.Numerals.{add-one}
use native.Mathlib.Decide.{ℕ_discrete, dec_lt}
use native.Mathlib.Nat.{le_antisymm, not-suc-le-zero}
use native.Mathlib.Omega.{arith}
use borrow.Author.Tests.{eq-eqb, ne_eqb}
use lib.ListN.{length, get_or, set, length-set}
use lib.Seq.{get_or-set_same, get_or-set_other}
use Rattle.tile_classes.specs.Places.{class_in, order_in, key_in, cell_in}
use Rattle.tile_classes.specs.Ranks.{fresh, freshBelow, rank, key_at, cell_at, Listed, Ranked}

module _ (f : ℕ → ℕ) where
  fresh-none : fresh f 0 ≡ 0
  unfolding fresh
  fresh-none = refl

  fresh-same : (i : ℕ) → f i ≡ f (suc i) → fresh f (suc i) ≡ 0
  unfolding fresh
  fresh-same i e = rw (eq-eqb (f i) (f (suc i)) e)

  fresh-other : (i : ℕ) → (f i ≡ f (suc i) → ⊥) → fresh f (suc i) ≡ 1
  unfolding fresh
  fresh-other i e = rw (ne_eqb (f i) (f (suc i)) e)

  -- at a number that is not 0
  module _ {i : ℕ} (j : ℕ) (e : i ≡ suc j) where
    pub fresh-same-at : {a b : ℕ} → a ≡ f j → b ≡ f i → a ≡ b → 0 ≡ fresh f i
    fresh-same-at p q r = rw e (sym (fresh-same j (sym p ∙ r ∙ q ∙ ap f e)))

    pub fresh-other-at : {a b : ℕ} → a ≡ f j → b ≡ f i → (a ≡ b → ⊥) → 1 ≡ fresh f i
    fresh-other-at p q r = rw e (sym (fresh-other j (λ z. r (p ∙ z ∙ ap f (sym e) ∙ sym q))))

  pub fresh-first : {i : ℕ} → i ≡ 0 → 0 ≡ fresh f i
  fresh-first e = rw e (sym fresh-none)

  pub below_none : 0 ≡ freshBelow f 0
  unfolding freshBelow
  below_none = refl

  below_next : (i : ℕ) → freshBelow f (i + 1) ≡ freshBelow f i + fresh f i
  unfolding freshBelow
  below_next i = rw add-one

  rank-next : (i : ℕ) → rank f (suc i) ≡ rank f i + fresh f (suc i)
  unfolding freshBelow
  rank-next i = refl

  rank-none : rank f 0 ≡ 0
  unfolding freshBelow
  rank-none = omega (arith, fresh-none)

  fresh-one : (i : ℕ) → fresh f i ≤ 1
  fresh-one zero = omega (arith, fresh-none)
  fresh-one (suc i) = elim (ℕ_discrete (f i) (f (suc i))) [ yes e ↦ omega (arith, fresh-same i e) | no e ↦ omega (arith, fresh-other i e) ]

  pub below-le : (i : ℕ) → freshBelow f i ≤ i
  unfolding freshBelow
  below-le zero = omega arith
  below-le (suc i) = omega (arith, below-le i, fresh-one i)

  pub rank-le : (i : ℕ) → rank f i ≤ i
  rank-le zero = omega (arith, rank-none)
  rank-le (suc i) = omega (arith, rank-next i, rank-le i, fresh-one (suc i))

  rank_up : (i j : ℕ) → i ≤ j → rank f i ≤ rank f j
  rank_up i zero h = let e : i ≡ 0 = omega arith in rw e (omega arith)
  rank_up i (suc j) h = elim (ℕ_discrete i (suc j)) [ yes e ↦ rw e (omega arith) | no e ↦ omega (arith, rank-next j, rank_up i j (omega arith)) ]

  -- up to n it does not fall
  module _ (n : ℕ) (up : (i j : ℕ) → i ≤ j → j < n → f i ≤ f j) where
    same_above : (i j : ℕ) → i ≤ j → j < n → f i ≡ f j → rank f i ≡ rank f j
    same_above i zero h b e = let q : i ≡ 0 = omega arith in ap (rank f) q
    same_above i (suc j) h b e = elim (ℕ_discrete i (suc j)) [
      | yes q ↦ ap (rank f) q
      | no q ↦ (let same : f i ≡ f j = le_antisymm (up i j (omega arith) (omega arith)) (omega (arith, up j (suc j) (omega arith) b)) in
          omega (arith, rank-next j, fresh-same j (sym same ∙ e), same_above i j (omega arith) (omega arith) same))
    ]

    only_above : (i j : ℕ) → i ≤ j → j < n → rank f i ≡ rank f j → f i ≡ f j
    only_above i zero h b e = let q : i ≡ 0 = omega arith in ap f q
    only_above i (suc j) h b e = elim (ℕ_discrete i (suc j)) [
      | yes q ↦ ap f q
      | no q ↦ (let low : rank f i ≤ rank f j = rank_up i j (omega arith) in
          only_above i j (omega arith) (omega arith) (omega (arith, rank-next j)) ∙ stay j (omega (arith, rank-next j)))
    ]
      where
        stay : (j : ℕ) → fresh f (suc j) ≡ 0 → f j ≡ f (suc j)
        stay j z = elim (ℕ_discrete (f j) (f (suc j))) [ yes q ↦ q | no q ↦ absurd (omega (arith, fresh-other j q)) ]

    pub rank_same : (i j : ℕ) → i < n → j < n → f i ≡ f j → rank f i ≡ rank f j
    rank_same i j a b e = elim (dec_lt i j) [ yes h ↦ same_above i j (omega arith) b e | no h ↦ sym (same_above j i (omega arith) a (sym e)) ]

    pub rank-only : (i j : ℕ) → i < n → j < n → rank f i ≡ rank f j → f i ≡ f j
    rank-only i j a b e = elim (dec_lt i j) [ yes h ↦ only_above i j (omega arith) b e | no h ↦ sym (only_above j i (omega arith) a (sym e)) ]

fresh-alike : (f g : ℕ → ℕ) → ((i : ℕ) → f i ≡ g i) → (i : ℕ) → fresh f i ≡ fresh g i
unfolding fresh
fresh-alike f g e zero = refl
fresh-alike f g e (suc i) = rw (e i, e (suc i))

-- ---- the pass
pub ranked-none : (n : ℕ) (s : List ℕ) → Ranked n s s 0
ranked-none n s = record { long = refl; numbers = λ j. refl; orders = λ c. refl; ranks = λ j h. absurd (not-suc-le-zero h) }

module _ (n : ℕ) (s₀ : List ℕ) (l : Listed n s₀) where
  -- the class that the next number gives
  pub class-next : {s : List ℕ} {i class r : ℕ} → Ranked n s₀ s i → class ≡ freshBelow (key_at n s₀) i → r ≡ fresh (key_at n s) i
      → class + r ≡ freshBelow (key_at n s₀) (i + 1)
  class-next {s} {i} k e q = omega (arith, below_next (key_at n s₀) i, fresh-alike (key_at n s) (key_at n s₀) (λ j. ap key_in (k.numbers j)) i)

  pub cell-inside : {s : List ℕ} {i c : ℕ} → Ranked n s₀ s i → i < n → c ≡ cell_at n s i → c < n
  cell-inside {s} {i} r h e = omega (arith, ap cell_in (r.numbers i), l.inside i h)

  -- the next number's cell
  pub ranked-next : {s : List ℕ} {i c : ℕ} (v : ℕ) → Ranked n s₀ s i → i < n → c ≡ cell_at n s i → class_in v ≡ freshBelow (key_at n s₀) (i + 1)
      → order_in v ≡ order_in (get_or s c 0) → Ranked n s₀ (set s c v) (i + 1)
  ranked-next {s} {i} {c} v r h q₀ k₀ o =
      record {
        long = length-set s c v ∙ r.long;
        numbers = λ j. get_or-set_other s c (n + j) v 0 (λ q. omega (arith, inside)) ∙ r.numbers j;
        orders =
            λ d. elim (ℕ_discrete d c) [
              | yes q ↦ rw (q, get_or-set_same s c v 0 within) (o ∙ r.orders c)
              | no q ↦ rw (get_or-set_other s c d v 0 q) (r.orders d)
            ];
        ranks = λ j b. elim (ℕ_discrete (cell_at n s₀ j) c) [
          | yes q ↦ rw (q, get_or-set_same s c v 0 within) (k ∙ rank_same (key_at n s₀) n l.in_order i j h (omega arith)
              (l.one_key i j h (omega arith) (sym e ∙ sym q)))
          | no q ↦ rw (get_or-set_other s c (cell_at n s₀ j) v 0 q) (elim (ℕ_discrete j i)
              [ yes z ↦ absurd (q (ap (cell_at n s₀) z ∙ sym e)) | no z ↦ r.ranks j (omega arith) ])
        ];
      }
    where
      e : c ≡ cell_at n s₀ i
      e = q₀ ∙ ap cell_in (r.numbers i)

      k : class_in v ≡ rank (key_at n s₀) i
      k = k₀ ∙ ap (freshBelow (key_at n s₀)) (add-one i)

      inside : c < n
      inside = cell-inside r h q₀

      within : c < length s
      within = omega (arith, l.room, r.long, inside)
