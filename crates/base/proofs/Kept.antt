-- What a test takes of a list. Assumes nothing.
use mathlib.Core.Path.{◌≡◌, refl}
use mathlib.Core.Bool.{Bool, true, false, cond}
use mathlib.Core.List.{List, [], ◌∷◌, ◌++◌, map}
use Prim.Native.Nat.{◌≤◌}
use native.Mathlib.Omega.{arith}
use lib.ListN.{length}
use Rattle.base.specs.Lists.{All, kept}

pub kept_append : {A : Type 0} (p : A → Bool) (k l : List A) → kept p (k ++ l) ≡ kept p k ++ kept p l
unfolding kept
kept_append p [] l = refl
kept_append p (x ∷ k) l = rw (kept_append p k l) (go (p x))
  where
    go : (b : Bool) → cond b (x ∷ kept p k ++ kept p l) (kept p k ++ kept p l) ≡ cond b (x ∷ kept p k) (kept p k) ++ kept p l
    go true = refl
    go false = refl

pub kept_map : {A B : Type 0} (p : B → Bool) (f : A → B) (l : List A) → kept p (map f l) ≡ map f (kept (λ x. p (f x)) l)
unfolding kept
kept_map p f [] = refl
kept_map p f (x ∷ l) = rw (kept_map p f l) (go (p (f x)))
  where
    go : (b : Bool) → cond b (f x ∷ map f (kept (λ x. p (f x)) l)) (map f (kept (λ x. p (f x)) l)) ≡ map f (cond b (x ∷ kept (λ x. p (f x)) l) (kept (λ x. p (f x)) l))
    go true = refl
    go false = refl

pub kept_same : {A : Type 0} (p q : A → Bool) (l : List A) → All (λ x. p x ≡ q x) l → kept p l ≡ kept q l
unfolding kept All
kept_same p q [] e = refl
kept_same p q (x ∷ l) e = rw (e.0, kept_same p q l e.1)

pub kept-all : {A : Type 0} (p : A → Bool) (l : List A) → All (λ x. p x ≡ true) l → kept p l ≡ l
unfolding kept All
kept-all p [] e = refl
kept-all p (x ∷ l) e = rw (e.0, kept-all p l e.1)

pub kept-few : {A : Type 0} (p : A → Bool) (l : List A) → length (kept p l) ≤ length l
unfolding kept
kept-few p [] = omega arith
kept-few p (x ∷ l) = go (p x) (kept-few p l)
  where
    go : (b : Bool) → length (kept p l) ≤ length l → length (cond b (x ∷ kept p l) (kept p l)) ≤ length (x ∷ l)
    go true k = omega arith
    go false k = omega arith

pub all-kept : {A : Type 0} (P : A → Type 0) (p : A → Bool) (l : List A) → All P l → All P (kept p l)
unfolding All kept
all-kept P p [] h = tt
all-kept P p (x ∷ l) h = go (p x) (all-kept P p l h.1)
  where
    go : (b : Bool) → All P (kept p l) → All P (cond b (x ∷ kept p l) (kept p l))
    go true k = (h.0, k)
    go false k = k
