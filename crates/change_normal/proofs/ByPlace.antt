-- A normal form holds, at each place, the first old and the last new of the changes that name it; and it is its own normal form. Assumes nothing.
use Prim.Native.Nat.{ℕ, ◌<◌}
use mathlib.Core.Path.{◌≡◌, refl, sym, ap, ◌∙◌}
use mathlib.Core.Bool.{Bool, true, false, cond}
use mathlib.Core.List.{List, [], ◌∷◌, ◌++◌, append_assoc, append-nil}
use native.Mathlib.Omega.{arith}
use native.Mathlib.Decide.{ℕ_discrete}
use lib.Dec.{eqb}
use borrow.Author.Tests.{eq-eqb, ne_eqb}
use Rattle.edit.specs.Change.{Change}
use Rattle.base.specs.Lists.{All, kept}
use Rattle.base_sort.proofs.Order.{less, same, more, tri}
use Rattle.base.proofs.Each.{all_map}
use Rattle.base.proofs.Kept.{kept-all}
use Rattle.change_normal.specs.Normal.{key_of, joined, enter, entered, changing, normalize_of}
use Rattle.change_normal.specs.Laws.{Ordered, at_place, folded, first_last}
use Rattle.change_normal.proofs.Group.{enter-none, enter-less, enter-same, enter-more, key-joined}
use Rattle.change_normal.proofs.Shortest.{ordered-enter, normal-ordered, all-changing}

unfoldable onto : List Change → List Change → List Change
onto [] cs = first_last cs
onto (e ∷ r) cs = folded e cs ∷ r

onto-nil : (x : List Change) → x ≡ onto x []
unfolding onto first_last folded
onto-nil [] = refl
onto-nil (e ∷ r) = refl

module _ (p : ℕ) where
  at-hit : (c : Change) (m : List Change) → p ≡ key_of c → at_place p (c ∷ m) ≡ c ∷ at_place p m
  unfolding at_place kept
  at-hit c m h = rw (eq-eqb p (key_of c) h)

  at-miss : (c : Change) (m : List Change) → (p ≡ key_of c → ⊥) → at_place p (c ∷ m) ≡ at_place p m
  unfolding at_place kept
  at-miss c m h = rw (ne_eqb p (key_of c) h)

  at_none : at_place p [] ≡ []
  unfolding at_place kept
  at_none = refl

  at_above : (m : List Change) → All (λ e. p < key_of e) m → at_place p m ≡ []
  unfolding All
  at_above [] a = at_none
  at_above (e ∷ m) a = at-miss e m (λ q. omega (arith, a.0)) ∙ at_above m a.1

  enter-other : (c : Change) (m : List Change) → (p ≡ key_of c → ⊥) → at_place p (enter c m) ≡ at_place p m
  enter-other c [] n = ap (at_place p) (enter-none c) ∙ at-miss c [] n
  enter-other c (e ∷ m) n = elim (tri (key_of c) (key_of e)) [
    | less q ↦ ap (at_place p) (enter-less c e m q) ∙ at-miss c (e ∷ m) n
    | same q ↦ ap (at_place p) (enter-same c e m q) ∙ at-miss (joined e c) m (λ r. n (r ∙ key-joined e c ∙ sym q)) ∙ sym (at-miss e m (λ r. n (r ∙ sym q)))
    | more q ↦ ap (at_place p) (enter-more c e m q) ∙ elim (ℕ_discrete p (key_of e)) [
      | yes r ↦ at-hit e (enter c m) r ∙ ap (λ (x : List Change). e ∷ x) (enter-other c m n) ∙ sym (at-hit e m r)
      | no r ↦ at-miss e (enter c m) r ∙ enter-other c m n ∙ sym (at-miss e m r)
    ]
  ]

  enter-here : (c : Change) (m : List Change) → p ≡ key_of c → Ordered m → at_place p (enter c m) ≡ onto (at_place p m) (c ∷ [])
  unfolding onto first_last folded Ordered
  enter-here c [] n o = ap (at_place p) (enter-none c) ∙ at-hit c [] n ∙ ap (λ (x : List Change). c ∷ x) at_none ∙ sym (ap (λ (x : List Change). onto x (c ∷ [])) at_none)
  enter-here c (e ∷ m) n o = elim (tri (key_of c) (key_of e)) [
    | less q ↦ (let z : at_place p (e ∷ m) ≡ [] = at-miss e m (λ r. omega arith) ∙ at_above m (all_map (λ f k. omega arith) m o.0) in
        ap (at_place p) (enter-less c e m q) ∙ at-hit c (e ∷ m) n ∙ ap (λ (x : List Change). c ∷ x) z ∙ sym (ap (λ (x : List Change). onto x (c ∷ [])) z))
    | same q ↦ ap (at_place p) (enter-same c e m q) ∙ at-hit (joined e c) m (n ∙ q ∙ sym (key-joined e c)) ∙ sym (ap (λ (x : List Change). onto x (c ∷ [])) (at-hit e m (n ∙ q)))
    | more q ↦ ap (at_place p) (enter-more c e m q) ∙ at-miss e (enter c m) (λ r. omega arith) ∙ enter-here c m n o.1 ∙ sym (ap (λ (x : List Change). onto x (c ∷ [])) (at-miss e m (λ r. omega arith)))
  ]

  onto-more : (x ys : List Change) (c : Change) → onto (onto x (c ∷ [])) ys ≡ onto x (c ∷ ys)
  unfolding onto first_last folded
  onto-more [] ys c = refl
  onto-more (e ∷ r) ys c = refl

  onto-none : (m : List Change) → at_place p m ≡ onto (at_place p m) []
  onto-none m = onto-nil (at_place p m)

  at-entered : (m cs : List Change) → Ordered m → at_place p (entered m cs) ≡ onto (at_place p m) (at_place p cs)
  unfolding entered
  at-entered m [] o = onto-none m ∙ ap (onto (at_place p m)) (sym at_none)
  at-entered m (c ∷ cs) o = at-entered (enter c m) cs (ordered-enter c m o) ∙ elim (ℕ_discrete p (key_of c)) [
    | yes q ↦ ap (λ (x : List Change). onto x (at_place p cs)) (enter-here c m q o) ∙ onto-more (at_place p m) (at_place p cs) c ∙ ap (onto (at_place p m)) (sym (at-hit c cs q))
    | no q ↦ ap (λ (x : List Change). onto x (at_place p cs)) (enter-other c m q) ∙ ap (onto (at_place p m)) (sym (at-miss c cs q))
  ]

  by_place : (cs : List Change) → at_place p (entered [] cs) ≡ first_last (at_place p cs)
  unfolding Ordered onto
  by_place cs = at-entered [] cs tt ∙ ap (λ (x : List Change). onto x (at_place p cs)) at_none

  kept-kept : (t : Change → Bool) (m : List Change) → at_place p (kept t m) ≡ kept t (at_place p m)
  unfolding at_place kept
  kept-kept t [] = refl
  kept-kept t (e ∷ m) = pick (t e) refl (eqb p (key_of e)) refl (kept-kept t m)
    where
      pick : (a : Bool) → t e ≡ a → (b : Bool) → eqb p (key_of e) ≡ b → at_place p (kept t m) ≡ kept t (at_place p m)
          → at_place p (cond a (e ∷ kept t m) (kept t m)) ≡ kept t (cond b (e ∷ at_place p m) (at_place p m))
      pick true q true r i = rw (q, r) (ap (λ (x : List Change). e ∷ x) i)
      pick true q false r i = rw r i
      pick false q true r i = rw q i
      pick false q false r i = i

  -- a normal form has, at each place, the first old and the last new of the changes that name it, where they differ
  pub normal-place : (cs : List Change) → at_place p (normalize_of cs) ≡ kept changing (first_last (at_place p cs))
  unfolding normalize_of
  normal-place cs = kept-kept changing (entered [] cs) ∙ ap (kept changing) (by_place cs)

-- ---- a list in order is its own map

enter-last : (c : Change) (m : List Change) → All (λ e. key_of e < key_of c) m → enter c m ≡ m ++ (c ∷ [])
unfolding All
enter-last c [] a = enter-none c
enter-last c (e ∷ m) a = enter-more c e m a.0 ∙ ap (λ (x : List Change). e ∷ x) (enter-last c m a.1)

below : (m : List Change) (c : Change) (cs : List Change) → Ordered (m ++ (c ∷ cs)) → All (λ e. key_of e < key_of c) m
unfolding All Ordered
below [] c cs o = tt
below (e ∷ m) c cs o = (head m o.0, below m c cs o.1)
  where
    head : (m : List Change) → All (λ f. key_of e < key_of f) (m ++ (c ∷ cs)) → key_of e < key_of c
    head [] a = a.0
    head (f ∷ m) a = head m a.1

entered-ordered : (m cs : List Change) → Ordered (m ++ cs) → entered m cs ≡ m ++ cs
unfolding entered
entered-ordered m [] o = sym (append-nil m)
entered-ordered m (c ∷ cs) o =
    ap (λ (x : List Change). entered x cs) (enter-last c m (below m c cs o)) ∙ entered-ordered (m ++ (c ∷ [])) cs (rw (append_assoc m (c ∷ []) cs) o) ∙ append_assoc m (c ∷ []) cs

-- a list in order, each of which changes something, is its own normal form
pub normal-itself : (cs : List Change) → Ordered cs → All (λ c. changing c ≡ true) cs → normalize_of cs ≡ cs
unfolding normalize_of
normal-itself cs o a = ap (kept changing) (entered-ordered [] cs o) ∙ kept-all changing cs a

-- normalised again, a normal form is the same
pub normal-again : (cs : List Change) → normalize_of (normalize_of cs) ≡ normalize_of cs
unfolding normalize_of
normal-again cs = normal-itself (kept changing (entered [] cs)) (normal-ordered cs) (all-changing (entered [] cs))
