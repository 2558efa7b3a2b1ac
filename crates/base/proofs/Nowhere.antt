-- Where no element of a list has p: what `some p l ≡ false` says of one element, and the lists that it passes to. Assumes nothing.
use mathlib.Core.Path.{◌≡◌, refl, ap}
use mathlib.Core.Bool.{Bool, false, ◌||◌}
use mathlib.Core.List.{List, [], ◌∷◌, ◌++◌, map, flat_map}
use Prim.Native.Nat.{ℕ, zero, suc, ◌<◌}
use native.Mathlib.Omega.{arith}
use lib.ListN.{length, take, drop, get_or, set}
use Rattle.base.specs.Lists.{some}
use Rattle.base.proofs.Scan.{or_left, or_right}

pub or-both : {a b : Bool} → a ≡ false → b ≡ false → a || b ≡ false
or-both {a} {b} p q = rw (p, q)

module _ {A : Type 0} (p : A → Bool) where
  -- not the first, and none after it
  pub first-not : (x : A) (l : List A) → some p (x ∷ l) ≡ false → p x ≡ false
  unfolding some
  first-not x l a = or_left (p x) (some p l) a

  pub rest-not : (x : A) (l : List A) → some p (x ∷ l) ≡ false → some p l ≡ false
  unfolding some
  rest-not x l a = or_right (p x) (some p l) a

  pub nowhere-append : (k l : List A) → some p k ≡ false → some p l ≡ false → some p (k ++ l) ≡ false
  unfolding some
  nowhere-append [] l a b = b
  nowhere-append (x ∷ k) l a b = or-both (first-not x k a) (nowhere-append k l (rest-not x k a) b)

  pub nowhere-take : (n : ℕ) (l : List A) → some p l ≡ false → some p (take n l) ≡ false
  unfolding some
  nowhere-take zero l a = refl
  nowhere-take (suc n) [] a = refl
  nowhere-take (suc n) (x ∷ l) a = or-both (first-not x l a) (nowhere-take n l (rest-not x l a))

  pub nowhere-drop : (n : ℕ) (l : List A) → some p l ≡ false → some p (drop n l) ≡ false
  unfolding some
  nowhere-drop zero l a = a
  nowhere-drop (suc n) [] a = refl
  nowhere-drop (suc n) (x ∷ l) a = nowhere-drop n l (rest-not x l a)

  pub nowhere-set : (l : List A) (i : ℕ) (v : A) → some p l ≡ false → p v ≡ false → some p (set l i v) ≡ false
  unfolding some
  nowhere-set [] i v a b = refl
  nowhere-set (x ∷ l) zero v a b = or-both b (rest-not x l a)
  nowhere-set (x ∷ l) (suc i) v a b = or-both (first-not x l a) (nowhere-set l i v (rest-not x l a) b)

  -- from its elements, one by one
  pub nowhere-of : (l : List A) (d : A) → ((i : ℕ) → i < length l → p (get_or l i d) ≡ false) → some p l ≡ false
  unfolding some
  nowhere-of [] d h = refl
  nowhere-of (x ∷ l) d h = or-both (h 0 (omega arith)) (nowhere-of l d (λ i b. h (suc i) (omega arith)))

  -- from the lists that it is made of
  pub nowhere-flat_map : {B : Type 0} (f : B → List A) → ((y : B) → some p (f y) ≡ false) → (l : List B) → some p (flat_map f l) ≡ false
  unfolding some flat_map
  nowhere-flat_map f h [] = refl
  nowhere-flat_map f h (y ∷ l) = nowhere-append (f y) (flat_map f l) (h y) (nowhere-flat_map f h l)

module _ {A B : Type 0} (f : A → B) where
  pub some-map : (p : B → Bool) (l : List A) → some p (map f l) ≡ some (λ x. p (f x)) l
  unfolding some
  some-map p [] = refl
  some-map p (x ∷ l) = ap (λ r. p (f x) || r) (some-map p l)

  -- f is undone by g, but for what has p
  pub map-undone : (p : A → Bool) (g : B → A) → ((x : A) → p x ≡ false → g (f x) ≡ x) → (l : List A) → some p l ≡ false → map g (map f l) ≡ l
  map-undone p g h [] a = refl
  map-undone p g h (x ∷ l) a = rw (h x (first-not p x l a), map-undone p g h l (rest-not p x l a))

-- what has neither p nor q has not r
pub nowhere-both : {A : Type 0} (p q r : A → Bool) → ((x : A) → p x ≡ false → q x ≡ false → r x ≡ false)
    → (l : List A) → some p l ≡ false → some q l ≡ false → some r l ≡ false
unfolding some
nowhere-both p q r h [] a b = refl
nowhere-both p q r h (x ∷ l) a b = or-both (h x (first-not p x l a) (first-not q x l b)) (nowhere-both p q r h l (rest-not p x l a) (rest-not q x l b))

pub nowhere-weaker : {A : Type 0} (p q : A → Bool) → ((x : A) → p x ≡ false → q x ≡ false) → (l : List A) → some p l ≡ false → some q l ≡ false
nowhere-weaker p q h l a = nowhere-both p p q (λ x b c. h x b) l a a
