-- The normal form of changes on a sheet, place by place: what each place has of the first old and the last new, where they differ. Assumes nothing.
use Prim.Native.Nat.{ℕ, zero, suc, ◌+◌, ◌*◌, ◌/◌, ◌%◌, ◌≤◌, ◌<◌, ◌^◌}
use mathlib.Core.Path.{◌≡◌, refl, sym, ap, ◌∙◌}
use mathlib.Core.List.{List, [], ◌∷◌, flat_map}
use native.Mathlib.Omega.{arith}
use native.Mathlib.Nat.{mod-lt, div-add-mod'}
use native.Mathlib.Decide.{ℕ_discrete}
use lib.Arith.{digits_div, digits_mod}
use borrow.Author.Tests.{eq-eqb, ne_eqb}
use Rattle.base.specs.Lists.{range, kept, All}
use Rattle.edit.specs.Change.{Change, place}
use Rattle.base.proofs.Each.{all_map}
use Rattle.base.proofs.Kept.{all-kept}
use Rattle.change_normal.specs.Normal.{key_of, entered, changing, normalize_of}
use Rattle.change_normal.specs.Laws.{On, Ordered, at_place, first_last}
use Rattle.change_normal.proofs.Shortest.{normal-ordered, inside, on-entered}
use Rattle.change_normal.proofs.ByPlace.{normal-place}
use Rattle.change_normal.proofs.Pictures.{all-later}

pub flat-same : {A : Type 0} (f g : ℕ → List A) (i k : ℕ) → ((p : ℕ) → i ≤ p → p < i + k → f p ≡ g p) → flat_map f (range i k) ≡ flat_map g (range i k)
unfolding flat_map range
flat-same f g i zero e = refl
flat-same f g i (suc k) e = let a : f i ≡ g i = e i (omega arith) (omega arith) in let b : flat_map f (range (suc i) k) ≡ flat_map g (range (suc i) k) = flat-same f g (suc i) k (λ p h j. e p (omega arith) (omega arith)) in rw (a, b)

-- the key of place p
abbrev pub key_at : ℕ → ℕ → ℕ
key_at w p = p / w * 2 ^ 16 + p % w

at-hit : (k : ℕ) (c : Change) (m : List Change) → k ≡ key_of c → at_place k (c ∷ m) ≡ c ∷ at_place k m
unfolding at_place kept
at-hit k c m h = rw (eq-eqb k (key_of c) h)

at-miss : (k : ℕ) (c : Change) (m : List Change) → (k ≡ key_of c → ⊥) → at_place k (c ∷ m) ≡ at_place k m
unfolding at_place kept
at-miss k c m h = rw (ne_eqb k (key_of c) h)

at_none : (k : ℕ) (m : List Change) → All (λ e. k ≡ key_of e → ⊥) m → at_place k m ≡ []
unfolding All at_place kept
at_none k [] a = refl
at_none k (e ∷ m) a = rw (ne_eqb k (key_of e) a.0) (at_none k m a.1)

module _ (w h : ℕ) (wide : 0 < w) (small : w ≤ 2 ^ 16) where
  pub key-place : (e : Change) → On w h e → key_of e ≡ key_at w (place w e)
  unfolding On key_of place
  key-place e o = rw (digits_div e.y o.0, digits_mod e.y o.0)

  pub key-same : (p q : ℕ) → key_at w p ≡ key_at w q → p ≡ q
  key-same p q e =
      let a : p / w ≡ q / w = omega (arith, mod-lt p wide, mod-lt q wide) in
      let b : p / w * w ≡ q / w * w = ap (λ (z : ℕ). z * w) a in
      omega (arith, div-add-mod' p w, div-add-mod' q w)

  other_key : (p : ℕ) (e : Change) → On w h e → (place w e ≡ p → ⊥) → key_at w p ≡ key_of e → ⊥
  other_key p e o n q = n (sym (key-same p (place w e) (q ∙ key-place e o)))

  all-other : (p : ℕ) (m : List Change) → All (On w h) m → All (λ e. p < place w e) m → All (λ e. key_at w p ≡ key_of e → ⊥) m
  unfolding All
  all-other p [] a b = tt
  all-other p (e ∷ m) a b = (other_key p e a.0 (λ z. omega (arith, b.0)), all-other p m a.1 b.1)

  -- a list in order is what it has at each place
  gathered : (k i : ℕ) (m : List Change) → i + k ≡ w * h → Ordered m → All (On w h) m → All (λ e. i ≤ place w e) m → m ≡ flat_map (λ p. at_place (key_at w p) m) (range i k)
  unfolding Ordered All flat_map range
  gathered zero i [] s o a b = refl
  gathered zero i (e ∷ m) s o a b = absurd (omega (arith, inside w h small e a.0, b.0))
  gathered (suc k) i [] s o a b = rw (at_none (key_at w i) [] tt) (gathered k (suc i) [] (omega arith) tt tt tt)
  gathered (suc k) i (e ∷ m) s o a b = elim (ℕ_discrete (place w e) i) [
    | yes z ↦ (let behind = all-later w h small e m a.0 a.1 o.0 in
        let here : at_place (key_at w i) (e ∷ m) ≡ e ∷ [] = at-hit (key_at w i) e m (ap (key_at w) (sym z) ∙ sym (key-place e a.0)) ∙ ap (λ (x : List Change). e ∷ x) (at_none (key_at w i) m (all-other i m a.1 (all_map (λ f x. omega arith) m behind))) in
        let rest : flat_map (λ p. at_place (key_at w p) (e ∷ m)) (range (suc i) k) ≡ flat_map (λ p. at_place (key_at w p) m) (range (suc i) k) =
        flat-same (λ p. at_place (key_at w p) (e ∷ m)) (λ p. at_place (key_at w p) m) (suc i) k (λ p j l. at-miss (key_at w p) e m (other_key p e a.0 (λ q. omega arith))) in
        rw (here, rest) (ap (λ (x : List Change). e ∷ x) (gathered k (suc i) m (omega arith) o.1 a.1 (all_map (λ f x. omega arith) m behind))))
    | no z ↦ (let behind = all-later w h small e m a.0 a.1 o.0 in
        let ahead : i < place w e = omega (arith, b.0) in
        let none : at_place (key_at w i) (e ∷ m) ≡ [] = at_none (key_at w i) (e ∷ m) (all-other i (e ∷ m) a (ahead, all_map (λ f x. omega arith) m behind)) in
        rw none (gathered k (suc i) (e ∷ m) (omega arith) o a (ahead, all_map (λ f x. omega arith) m behind)))
  ]

  on-normal : (cs : List Change) → All (On w h) cs → All (On w h) (normalize_of cs)
  unfolding normalize_of All
  on-normal cs a = all-kept (On w h) changing (entered [] cs) (on-entered w h small [] cs tt a)

  pub normal-gathered : (cs : List Change) → All (On w h) cs → normalize_of cs ≡ flat_map (λ p. kept changing (first_last (at_place (key_at w p) cs))) (range 0 (w * h))
  normal-gathered cs a =
      let m = normalize_of cs in
      let o = on-normal cs a in
      gathered (w * h) 0 m (omega arith) (normal-ordered cs) o (all_map (λ e x. omega arith) m o)
      ∙ flat-same (λ p. at_place (key_at w p) m) (λ p. kept changing (first_last (at_place (key_at w p) cs))) 0 (w * h) (λ p i k. normal-place (key_at w p) cs)
