-- Where the first element stands that a test takes. Assumes nothing.
use mathlib.Core.Path.{◌≡◌, refl, ap, ◌∙◌}
use mathlib.Core.Bool.{Bool, true, false}
use mathlib.Core.List.{List, [], ◌∷◌}
use Prim.Native.Nat.{ℕ, zero, suc, ◌<◌, ◌≤◌}
use native.Mathlib.Nat.{le_of_suc-le-suc, not-suc-le-zero}
use native.Mathlib.Omega.{arith}
use lib.ListN.{length, get_or}
use Rattle.tile_cells.specs.Tile.{position}

pub cases : {X : Type 0} (b : Bool) → (b ≡ true → X) → (b ≡ false → X) → X
cases true f g = f refl
cases false f g = g refl

module _ {A : Type 0} (p : A → Bool) where
  hit : (x : A) (l : List A) → p x ≡ true → position p (x ∷ l) ≡ 0
  unfolding position
  hit x l e = rw e

  miss : (x : A) (l : List A) → p x ≡ false → position p (x ∷ l) ≡ suc (position p l)
  unfolding position
  miss x l e = rw e

  pub position-le : (l : List A) → position p l ≤ length l
  unfolding position
  position-le [] = omega arith
  position-le (x ∷ l) = cases (p x) (λ e. omega (arith, hit x l e)) (λ e. omega (arith, miss x l e, position-le l))

  -- it is taken
  pub position-has : (d : A) (l : List A) → position p l < length l → p (get_or l (position p l) d) ≡ true
  position-has d [] h = absurd (not-suc-le-zero h)
  position-has d (x ∷ l) h = cases (p x) (λ e. rw (hit x l e) e) (λ e. rw (miss x l e) (position-has d l (omega (arith, miss x l e))))

  -- none before it is
  pub position-none : (d : A) (l : List A) (i : ℕ) → i < position p l → p (get_or l i d) ≡ false
  unfolding position
  position-none d [] i h = absurd (not-suc-le-zero h)
  position-none d (x ∷ l) zero h = cases (p x) (λ e. absurd (omega (arith, hit x l e))) (λ e. e)
  position-none d (x ∷ l) (suc i) h = cases (p x) (λ e. absurd (omega (arith, hit x l e))) (λ e. position-none d l i (omega (arith, miss x l e)))

  -- what these two say of a place makes it the position
  pub position-is : (d : A) (l : List A) (i : ℕ) → i < length l → p (get_or l i d) ≡ true → ((j : ℕ) → j < i → p (get_or l j d) ≡ false) → position p l ≡ i
  position-is d [] i h q n = absurd (not-suc-le-zero h)
  position-is d (x ∷ l) zero h q n = hit x l q
  position-is d (x ∷ l) (suc i) h q n = miss x l (n 0 (omega arith)) ∙ ap suc (position-is d l i (le_of_suc-le-suc h) q (λ j k. n (suc j) (omega arith)))

  pub position-out : (d : A) (l : List A) → ((j : ℕ) → j < length l → p (get_or l j d) ≡ false) → position p l ≡ length l
  unfolding position
  position-out d [] n = refl
  position-out d (x ∷ l) n = miss x l (n 0 (omega arith)) ∙ ap suc (position-out d l (λ j k. n (suc j) (omega arith)))
