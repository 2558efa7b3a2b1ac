-- Lists that are collected over a range or over a selection's positions. Assumes nothing.
use Prim.Native.Nat.{ℕ, zero, suc, ◌+◌, ◌-◌, ◌≤◌, ◌<◌}
use mathlib.Core.Path.{◌≡◌, refl, ap, ◌∙◌}
use mathlib.Core.List.{List, [], ◌∷◌, ◌++◌, map, flat_map, append-nil}
use native.Mathlib.Omega.{arith}
use native.Mathlib.Decide.{dec_lt}
use Rattle.base.specs.Lists.{range, All}
use Rattle.base.proofs.Collect.{range-append, flat_map-append}
use Rattle.selection_spans.specs.Positions.{Position, position, row}
use Rattle.selection.specs.declared.Selection.{Selection}
use Rattle.selection.specs.Selection.{positions}
use Rattle.base.proofs.Each.{all_of, all-flat, all-in-range}

module _ {A : Type 0} (f : ℕ → List A) where
  pub none-collected : (start count : ℕ) → ((i : ℕ) → start ≤ i → i < start + count → f i ≡ []) → flat_map f (range start count) ≡ []
  unfolding range flat_map
  none-collected start zero e = refl
  none-collected start (suc count) e = rw (e start (omega arith) (omega arith)) (none-collected (suc start) count (λ i a b. e i (omega arith) (omega arith)))

  -- where those before and those after give nothing
  module _ (start count from n : ℕ) (low : start ≤ from) (high : 0 < n → from + n ≤ start + count)
      (before : (i : ℕ) → start ≤ i → i < start + count → i < from → f i ≡ []) (after : (i : ℕ) → start ≤ i → i < start + count → from + n ≤ i → f i ≡ []) where
    within : from + n ≤ start + count → flat_map f (range start count) ≡ flat_map f (range from n)
    within h =
        let a : ℕ = from - start in
        let b : ℕ = start + count - (from + n) in
        let e : count ≡ a + (n + b) = omega arith in
        let s : start + a ≡ from = omega arith in
        ap (λ (k : ℕ). flat_map f (range start k)) e ∙ ap (flat_map f) (range-append start a (n + b)) ∙ flat_map-append f (range start a) (range (start + a) (n + b))
        ∙ ap (λ (l : List A). l ++ flat_map f (range (start + a) (n + b))) (none-collected start a (λ i p q. before i p (omega arith) (omega arith)))
        ∙ ap (λ (k : ℕ). flat_map f (range k (n + b))) s ∙ ap (flat_map f) (range-append from n b) ∙ flat_map-append f (range from n) (range (from + n) b)
        ∙ ap (λ (l : List A). flat_map f (range from n) ++ l) (none-collected (from + n) b (λ i p q. after i (omega arith) (omega arith) (omega arith)))
        ∙ append-nil (flat_map f (range from n))

    pub clipped : flat_map f (range start count) ≡ flat_map f (range from n)
    unfolding range flat_map
    clipped = elim (dec_lt 0 n) [
      | yes h ↦ within (high h)
      | no h ↦ (let e : n ≡ 0 = omega arith in rw e (none-collected start count (λ i p q. elim (dec_lt i from) [ yes k ↦ before i p q k | no k ↦ after i p q (omega arith) ])))
    ]

module _ {A B : Type 0} where
  pub collected-alike : (f g : A → List B) → ((x : A) → f x ≡ g x) → (l : List A) → flat_map f l ≡ flat_map g l
  unfolding flat_map
  collected-alike f g e [] = refl
  collected-alike f g e (x ∷ l) = rw (e x, collected-alike f g e l)

  pub map-collected : (f : A → B) (l : List A) → map f l ≡ flat_map (λ x. f x ∷ []) l
  unfolding flat_map
  map-collected f [] = refl
  map-collected f (x ∷ l) = ap (λ k. f x ∷ k) (map-collected f l)

module _ {A B C : Type 0} (f : B → List C) where
  twice : (g : A → List B) (l : List A) → flat_map f (flat_map g l) ≡ flat_map (λ x. flat_map f (g x)) l
  unfolding flat_map
  twice g [] = refl
  twice g (x ∷ l) = flat_map-append f (g x) (flat_map g l) ∙ ap (λ k. flat_map f (g x) ++ k) (twice g l)

  of_map : (g : A → B) (l : List A) → flat_map f (map g l) ≡ flat_map (λ x. f (g x)) l
  unfolding flat_map
  of_map g [] = refl
  of_map g (x ∷ l) = ap (λ k. f (g x) ++ k) (of_map g l)

-- over a selection: row by row
pub by_rows : {B : Type 0} (f : Position → List B) (s : Selection)
    → flat_map f (positions s) ≡ flat_map (λ y. flat_map (λ x. f (position y x)) (range s.x s.w)) (range s.y s.h)
unfolding positions row
by_rows f s = twice f (row s.x s.w) (range s.y s.h) ∙ collected-alike _ _ (λ y. of_map f (position y) (range s.x s.w)) (range s.y s.h)

-- ---- what all of them have
module _ {B : Type 0} (P : B → Type 0) where
  pub all-collected : {A : Type 0} (f : A → List B) → ((x : A) → All P (f x)) → (l : List A) → All P (flat_map f l)
  all-collected f h l = all-flat P f l (all_of h l)

  pub all-range : (f : ℕ → List B) (start count : ℕ) → ((i : ℕ) → start ≤ i → i < start + count → All P (f i)) → All P (flat_map f (range start count))
  all-range f start count h = all-flat P f (range start count) (all-in-range (λ i. All P (f i)) start count h)
