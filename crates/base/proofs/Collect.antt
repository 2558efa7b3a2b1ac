-- Lists that are collected over a range, as a loop collects them: one number more at the end, and how long they are. Assumes nothing.
use mathlib.Core.Path.{◌≡◌, refl, sym, ap, ◌∙◌}
use mathlib.Core.List.{List, [], ◌∷◌, ◌++◌, flat_map, append_assoc, append-nil}
use Prim.Native.Nat.{ℕ, zero, suc, ◌+◌, ◌*◌}
use native.Mathlib.Numerals.{add-one}
use native.Mathlib.Nat.{add-zero, zero-add, add-suc, suc-add}
use native.Mathlib.Omega.{arith}
use lib.ListN.{length, length-append}
use Rattle.base.specs.Lists.{range}

pub length-range : (start count : ℕ) → length (range start count) ≡ count
unfolding range
length-range start zero = refl
length-range start (suc count) = ap suc (length-range (suc start) count)

pub range-suc : (start count : ℕ) → range start (suc count) ≡ range start count ++ ((start + count) ∷ [])
unfolding range
range-suc start zero = rw (add-zero start)
range-suc start (suc count) = ap (λ l. start ∷ l) (rw (add-suc start count, ← suc-add start count) (range-suc (suc start) count))

pub range-next : (start count : ℕ) → range start (count + 1) ≡ range start count ++ ((start + count) ∷ [])
range-next start count = rw add-one (range-suc start count)

pub range-append : (start a b : ℕ) → range start (a + b) ≡ range start a ++ range (start + a) b
unfolding range
range-append start zero b = rw (zero-add b, add-zero start)
range-append start (suc a) b = rw (suc-add a b) (ap (λ l. start ∷ l) (rw (add-suc start a, ← suc-add start a) (range-append (suc start) a b)))

module _ {A B : Type 0} where
  pub flat_map-append : (f : A → List B) (k l : List A) → flat_map f (k ++ l) ≡ flat_map f k ++ flat_map f l
  unfolding flat_map
  flat_map-append f [] l = refl
  flat_map-append f (x ∷ k) l = ap (λ r. f x ++ r) (flat_map-append f k l) ∙ sym (append_assoc (f x) (flat_map f k) (flat_map f l))

  pub flat_map-one : (f : A → List B) (x : A) → flat_map f (x ∷ []) ≡ f x
  unfolding flat_map
  flat_map-one f x = append-nil (f x)

  -- where each gives as many
  pub length-flat_map : (f : A → List B) (n : ℕ) → ((x : A) → length (f x) ≡ n) → (l : List A) → length (flat_map f l) ≡ length l * n
  unfolding flat_map
  length-flat_map f n e [] = omega arith
  length-flat_map f n e (x ∷ l) = length-append (f x) (flat_map f l) ∙ rw (e x, length-flat_map f n e l) (omega arith)
