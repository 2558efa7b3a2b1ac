-- Lists whose keys rise: what is taken of them rises, and so do their changes. Assumes nothing.
use Prim.Native.Nat.{ℕ, ◌<◌}
use mathlib.Core.Path.{◌≡◌}
use mathlib.Core.Bool.{Bool, true, false, cond}
use mathlib.Core.List.{List, [], ◌∷◌, ◌++◌, map}
use Rattle.base.specs.Lists.{kept, All}
use Rattle.base.proofs.Each.{all_map, all_append, all-mapped}
use Rattle.base.proofs.Kept.{all-kept}
use Rattle.edit.specs.Change.{Change}
use Rattle.change_normal.specs.Normal.{key_of}
use Rattle.change_normal.specs.Laws.{Ordered}

module _ {A : Type 0} (key : A → ℕ) where
  unfoldable pub Rising : List A → Type 0
  Rising [] = Unit {0}
  Rising (x ∷ l) = All (λ y. key x < key y) l × Rising l

  pub rising-kept : (t : A → Bool) (l : List A) → Rising l → Rising (kept t l)
  unfolding Rising kept
  rising-kept t [] h = tt
  rising-kept t (x ∷ l) h = pick (t x) (rising-kept t l h.1)
    where
      pick : (b : Bool) → Rising (kept t l) → Rising (cond b (x ∷ kept t l) (kept t l))
      pick true k = (all-kept (λ y. key x < key y) t l h.0, k)
      pick false k = k

  pub rising-append : (k l : List A) → Rising k → Rising l → All (λ x. All (λ y. key x < key y) l) k → Rising (k ++ l)
  unfolding Rising All
  rising-append [] l a b c = b
  rising-append (x ∷ k) l a b c = (all_append (λ y. key x < key y) k l a.0 c.0, rising-append k l a.1 b c.1)

  -- as changes with those keys
  pub ordered-map : (f : A → Change) → ((x : A) → key_of (f x) ≡ key x) → (l : List A) → Rising l → Ordered (map f l)
  unfolding Rising Ordered
  ordered-map f e [] h = tt
  ordered-map f e (x ∷ l) h =
      (all-mapped (λ c. key_of (f x) < key_of c) f l (all_map {P = λ y. key x < key y} {Q = λ y. key_of (f x) < key_of (f y)} (λ y q. rw (e x, e y) q) l h.0), ordered-map f e l h.1)
