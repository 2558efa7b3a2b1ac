-- A list of doubles rises exactly where std's `is_sorted_by` finds each below the next. Assumes nothing.
use mathlib.Core.Path.{◌≡◌, refl, sym, ap, ◌∙◌}
use mathlib.Core.Bool.{Bool, true, false, ◌&&◌, and-false}
use mathlib.Core.List.{List, [], ◌∷◌}
use Prim.Native.Nat.{ℕ, zero, suc, ◌<◌}
use native.Mathlib.Numerals.{add-one}
use native.Mathlib.Omega.{arith}
use lib.Ieee.{Float, nan, lt}
use lib.ListN.{length, get_or}
use Rattle.std.specs.List.{IsAllAdjacentAnswer}
use Rattle.color_curve.specs.Curve.{rising}

up : (l : List Float) → ((k : ℕ) → suc k < length l → true ≡ lt (get_or l k nan) (get_or l (suc k) nan)) → true ≡ rising l
unfolding rising
up [] h = refl
up (x ∷ []) h = refl
up (x ∷ y ∷ l) h = up (y ∷ l) (λ k q. h (suc k) (omega arith)) ∙ ap (λ (b : Bool). b && rising (y ∷ l)) (h 0 (omega arith))

down : (l : List Float) (k : ℕ) → suc k < length l → false ≡ lt (get_or l k nan) (get_or l (suc k) nan) → false ≡ rising l
unfolding rising
down [] k h e = absurd (omega arith)
down (x ∷ []) k h e = absurd (omega arith)
down (x ∷ y ∷ l) zero h e = ap (λ (b : Bool). b && rising (y ∷ l)) e
down (x ∷ y ∷ l) (suc k) h e = sym (and-false (lt x y)) ∙ ap (λ (b : Bool). lt x y && b) (down (y ∷ l) k (omega arith) e)

pub rising_answer : (l : List Float) (r : Bool) → IsAllAdjacentAnswer (λ x y b. b ≡ lt x y) l r → r ≡ rising l
rising_answer l true h = up l (λ k q. rw add-one at (h k nan (omega arith)))
rising_answer l false h = down l h.0 (omega arith) (rw add-one at (h.2 nan))
