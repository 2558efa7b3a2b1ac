-- A pass over a list that changes one number an element, and the marks that such a pass leaves. Assumes nothing.
use Prim.Native.Nat.{ℕ, zero, suc, ◌+◌, ◌*◌, ◌/◌, ◌%◌, ◌≤◌, ◌<◌, ◌^◌}
use mathlib.Core.Path.{◌≡◌, refl, sym, ap, ◌∙◌}
use mathlib.Core.Bool.{Bool, true, false, cond}
use mathlib.Core.List.{List}
use native.Mathlib.Omega.{arith}
use native.Mathlib.Numerals.{add-one}
use native.Mathlib.Decide.{ℕ_discrete}
use lib.ListN.{length, get_or, set, length-set}
use lib.Seq.{get_or-set_same, get_or-set_other}
use borrow.Author.Tests.{eq-eqb, ne_eqb}
use Rattle.tile_marks.specs.Marks.{run, place_at, elsewhere, mark_by, marked_by}

-- one element more
module _ (key : ℕ → ℕ) (f : ℕ → ℕ → ℕ) (p v i : ℕ) where
  pub run-hit : key i ≡ p → run key f p v (suc i) ≡ f i (run key f p v i)
  unfolding run
  run-hit e = rw (eq-eqb (key i) p e)

  pub run-miss : (key i ≡ p → ⊥) → run key f p v (suc i) ≡ run key f p v i
  unfolding run
  run-miss e = rw (ne_eqb (key i) p e)

pub run_none : (key : ℕ → ℕ) (f : ℕ → ℕ → ℕ) (p v : ℕ) → run key f p v 0 ≡ v
unfolding run
run_none key f p v = refl

-- ---- the loop
module _ (key : ℕ → ℕ) (f : ℕ → ℕ → ℕ) (s₀ : List ℕ) where
  pub record Running (s : List ℕ) (i : ℕ) : Type 0 where
    pub long : length s ≡ length s₀
    pub at : (p : ℕ) → p < length s₀ → get_or s p 0 ≡ run key f p (get_or s₀ p 0) i

  pub running-start : Running s₀ 0
  running-start = record { long = refl; at = λ p h. sym (run_none key f p (get_or s₀ p 0)) }

  pub running-step : (s : List ℕ) (i : ℕ) → Running s i → (k v : ℕ) → k ≡ key i → k < length s₀ → v ≡ f i (get_or s k 0) → Running (set s k v) (i + 1)
  running-step s i r k v e h g = record {
    long = length-set s k v ∙ r.long;
    at = λ p b. rw add-one (elim (ℕ_discrete (key i) p) [
      | yes q ↦ (let z : p ≡ k = sym (e ∙ q) in rw z (get_or-set_same s k v 0 (rw r.long h) ∙ g ∙ ap (f i) (r.at k h) ∙ sym (run-hit key f k (get_or s₀ k 0) i (sym e))))
      | no q ↦ get_or-set_other s k p v 0 (λ z. q (sym e ∙ sym z)) ∙ r.at p b ∙ sym (run-miss key f p (get_or s₀ p 0) i q)
    ]);
  }

-- ---- marks
module _ (w : ℕ) (list : List ℕ) where
  mark-parts : (i m c : ℕ) → c < 2 ^ 20 → marked_by w list i (c + m * 2 ^ 20) ≡ c + mark_by w list i m * 2 ^ 20
  unfolding marked_by
  mark-parts i m c h =
      let a : (c + m * 2 ^ 20) % 2 ^ 20 ≡ c = omega arith in
      let b : (c + m * 2 ^ 20) / 2 ^ 20 ≡ m = omega arith in
      rw (a, b)

  mark-next : (i m : ℕ) → mark_by w list i m < 2 * (i + 1) + 2
  unfolding mark_by
  mark-next i m = pick (elsewhere w list m (place_at w list i))
    where
      pick : (b : Bool) → 2 * (i + 1) + cond b 1 0 < 2 * (i + 1) + 2
      pick true = omega arith
      pick false = omega arith

  module _ (key : ℕ → ℕ) (p : ℕ) where
    -- the mark alone
    abbrev pub mark : ℕ → ℕ
    mark i = run key (mark_by w list) p 0 i

    pub mark-small : (i : ℕ) → mark i < 2 * i + 2
    mark-small zero = rw (run_none key (mark_by w list) p 0) (omega arith)
    mark-small (suc i) = elim (ℕ_discrete (key i) p) [
      | yes q ↦ rw (run-hit key (mark_by w list) p 0 i q) (let b = mark-next i (mark i) in omega arith)
      | no q ↦ rw (run-miss key (mark_by w list) p 0 i q) (let b = mark-small i in omega arith)
    ]

    -- above the class
    pub marked-parts : (c : ℕ) → c < 2 ^ 20 → (i : ℕ) → run key (marked_by w list) p c i ≡ c + mark i * 2 ^ 20
    marked-parts c h zero = run_none key (marked_by w list) p c ∙ rw (run_none key (mark_by w list) p 0) (omega arith)
    marked-parts c h (suc i) = elim (ℕ_discrete (key i) p) [
      | yes q ↦ run-hit key (marked_by w list) p c i q ∙ ap (marked_by w list i) (marked-parts c h i) ∙ mark-parts i (mark i) c h ∙ ap (λ (m : ℕ). c + m * 2 ^ 20) (sym (run-hit key (mark_by w list) p 0 i q))
      | no q ↦ run-miss key (marked_by w list) p c i q ∙ marked-parts c h i ∙ ap (λ (m : ℕ). c + m * 2 ^ 20) (sym (run-miss key (mark_by w list) p 0 i q))
    ]

    pub marked-class : (c : ℕ) → c < 2 ^ 20 → (i : ℕ) → run key (marked_by w list) p c i % 2 ^ 20 ≡ c
    marked-class c h i = rw (marked-parts c h i) (omega arith)

    pub marked-mark : (c : ℕ) → c < 2 ^ 20 → (i : ℕ) → run key (marked_by w list) p c i / 2 ^ 20 ≡ mark i
    marked-mark c h i = rw (marked-parts c h i) (omega arith)

  -- the class that change i is found to have, and its mark so far
  module _ (s₀ s : List ℕ) (i : ℕ) (n : length s₀ ≤ 2 ^ 20) (within : (p : ℕ) → p < length s₀ → get_or s₀ p 0 < length s₀) (r : Running (λ j. get_or s₀ (place_at w list j) 0) (marked_by w list) s₀ s i) where
    pub class-read : (q : ℕ) → q < length s₀ → get_or s q 0 % 2 ^ 20 ≡ get_or s₀ q 0
    class-read q h = rw (r.at q h) (marked-class (λ j. get_or s₀ (place_at w list j) 0) q (get_or s₀ q 0) (omega (arith, within q h)) i)

    pub mark-read : (q : ℕ) → q < length s₀ → get_or s q 0 / 2 ^ 20 < 2 * i + 2
    mark-read q h = rw (r.at q h, marked-mark (λ j. get_or s₀ (place_at w list j) 0) q (get_or s₀ q 0) (omega (arith, within q h)) i) (mark-small (λ j. get_or s₀ (place_at w list j) 0) q i)
