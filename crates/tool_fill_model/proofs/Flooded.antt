-- What the marked cells give is the flood. Assumes nothing.
use Prim.Native.Nat.{ℕ, zero, suc, ◌+◌, ◌%◌, ◌<◌}
use mathlib.Core.Path.{◌≡◌, refl, sym, ap, ◌∙◌}
use mathlib.Core.Bool.{Bool}
use mathlib.Core.List.{List, [], ◌∷◌, map}
use native.Mathlib.Omega.{arith}
use lib.Dec.{eqb}
use lib.IntN.{ℤ, pos}
use lib.ListN.{length, get_or}
use Rattle.base.specs.Lists.{range, kept}
use Rattle.selection.specs.declared.Selection.{Selection}
use Rattle.edit.specs.Change.{packed}
use Rattle.tool_fill_model.specs.Flood.{change_at, flooded, flood_of}
use Rattle.tool_fill_model.specs.Cells.{placed, emitted, pair_of, Fills}

pub kept-within : (f g : ℕ → Bool) (i k : ℕ) → ((p : ℕ) → p < i + k → f p ≡ g p) → kept f (range i k) ≡ kept g (range i k)
unfolding kept range
kept-within f g i zero h = refl
kept-within f g i (suc k) h = let e : f i ≡ g i = h i (omega arith) in let r : kept f (range (suc i) k) ≡ kept g (range (suc i) k) = kept-within f g (suc i) k (λ p q. h p (omega arith)) in rw (e, r)

map-map : {A B C : Type 0} (f : B → C) (g : A → B) (l : List A) → map f (map g l) ≡ map (λ x. f (g x)) l
map-map f g [] = refl
map-map f g (x ∷ l) = ap (λ r. f (g x) ∷ r) (map-map f g l)

map_same : (f g : ℕ → ℕ) (l : List ℕ) → ((p : ℕ) → f p ≡ g p) → map f l ≡ map g l
map_same f g [] h = refl
map_same f g (x ∷ l) h = let e : f x ≡ g x = h x in let r : map f l ≡ map g l = map_same f g l h in rw (e, r)

placed-packed : (w : ℕ) (old new : ℤ) (p : ℕ) → placed w (pair_of old new) p ≡ packed (change_at w old new p)
unfolding placed pair_of packed change_at
placed-packed w old new p = omega arith

pub is-flood : (w : ℕ) (l : List ℤ) (region : Selection) (start : ℕ) (index : ℤ) (s : List ℕ) (pair : ℕ) → length s ≡ length l → Fills w l region start s
    → pair ≡ pair_of (get_or l start (pos 0)) index → emitted w pair s ≡ map packed (flood_of w l region start index)
unfolding emitted flood_of Fills
is-flood w l region start index s pair n f e =
    let old : ℤ = get_or l start (pos 0) in
    let ps : List ℕ = kept (flooded w l region start) (range 0 (length l)) in
    rw (n, e)
    (ap (map (placed w (pair_of old index))) (kept-within (λ p. eqb (get_or s p 0 % 2) 1) (flooded w l region start) 0 (length l) (λ p q. f p (omega arith)))
    ∙ map_same (placed w (pair_of old index)) (λ p. packed (change_at w old index p)) ps (placed-packed w old index)
    ∙ sym (map-map packed (change_at w old index) ps))
