-- Places painted one after the other, and the pictures that they give. Assumes nothing.
use mathlib.Core.Path.{◌≡◌, refl, sym, ap, ◌∙◌}
use mathlib.Core.Bool.{Bool, true, false, cond}
use mathlib.Core.List.{List, [], ◌∷◌, ◌++◌, flat_map}
use Prim.Native.Nat.{ℕ, ◌+◌, ◌*◌}
use lib.IntN.{ℤ, pos, nat_abs}
use lib.ListN.{length, get_or, set, length-set}
use mir.Syntax.{w16}
use mir.Val.{SFits, of_z}
use Rattle.base.specs.Lists.{range}
use Rattle.base.proofs.Collect.{range-next, flat_map-append, flat_map-one}
use Rattle.selection.specs.declared.Selection.{Selection}
use Rattle.selection.specs.Selection.{contains_i}
use Rattle.tool_line.specs.Line.{Point}
use Rattle.edit.specs.Change.{place, painted, new_of}
use Rattle.change_list.specs.Between.{laid_out}
use Rattle.change_list.proofs.Copying.{laid-set}
use Rattle.change_normal.proofs.Pictures.{painted-append}
use Rattle.tool_stamp.specs.Points.{change_at, changes_at}
use Rattle.tool_stamp.specs.Places.{set_all, place_at, places_of}

module _ {A : Type 0} where
  pub set-append : (ps qs : List ℕ) (v : A) (l : List A) → set_all (ps ++ qs) v l ≡ set_all qs v (set_all ps v l)
  unfolding set_all
  set-append [] qs v l = refl
  set-append (p ∷ ps) qs v l = set-append ps qs v (set l p v)

  pub set-length : (ps : List ℕ) (v : A) (l : List A) → length (set_all ps v l) ≡ length l
  unfolding set_all
  set-length [] v l = refl
  set-length (p ∷ ps) v l = set-length ps v (set l p v) ∙ length-set l p v

  -- one place more, and one row more
  run-next : (at i : ℕ) (v : A) (l : List A) → set (set_all (range at i) v l) (at + i) v ≡ set_all (range at (i + 1)) v l
  unfolding set_all
  run-next at i v l = sym (ap (λ ps. set_all ps v l) (range-next at i) ∙ set-append (range at i) ((at + i) ∷ []) v l)

  rows_next : (f : ℕ → List ℕ) (y j : ℕ) (v : A) (l : List A) → set_all (f (y + j)) v (set_all (flat_map f (range y j)) v l) ≡ set_all (flat_map f (range y (j + 1))) v l
  rows_next f y j v l =
      sym (ap (λ ps. set_all ps v l) (ap (flat_map f) (range-next y j) ∙ flat_map-append f (range y j) ((y + j) ∷ []) ∙ ap (λ r. flat_map f (range y j) ++ r) (flat_map-one f (y + j)))
      ∙ set-append (flat_map f (range y j)) (f (y + j)) v l)

  -- the same as a loop meets it
  pub run_step : (at i : ℕ) (v : A) (l₀ l : List A) → l ≡ set_all (range at i) v l₀ → set l (at + i) v ≡ set_all (range at (i + 1)) v l₀
  run_step at i v l₀ l e = ap (λ (k : List A). set k (at + i) v) e ∙ run-next at i v l₀

  pub rows_step : (f : ℕ → List ℕ) (y j : ℕ) (v : A) (l₀ l m : List A) → l ≡ set_all (flat_map f (range y j)) v l₀ → m ≡ set_all (f (y + j)) v l
      → m ≡ set_all (flat_map f (range y (j + 1))) v l₀
  rows_step f y j v l₀ l m e g = g ∙ ap (set_all (f (y + j)) v) e ∙ rows_next f y j v l₀

-- ---- in the scratch, and in the picture
pub laid-all : (n : ℕ) (ps : List ℕ) (z : ℤ) (s : List ℕ) → SFits w16 z → laid_out n (set_all ps (of_z w16 z) s) ≡ set_all ps z (laid_out n s)
unfolding set_all
laid-all n [] z s f = refl
laid-all n (p ∷ ps) z s f = laid-all n ps z (set s p (of_z w16 z)) f ∙ ap (set_all ps z) (laid-set n s p z f)

module _ (w : ℕ) (l₀ : List ℤ) (region : Selection) (z : ℤ) where
  one : (p : Point) (l : List ℤ) → painted new_of w (change_at w l₀ region z p) l ≡ set_all (place_at region w p) z l
  unfolding change_at place_at painted set_all place
  one p l = go (contains_i region p.x p.y)
    where
      go : (b : Bool) → painted new_of w (cond b (record { x = nat_abs p.x; y = nat_abs p.y; old = get_or l₀ (nat_abs p.y * w + nat_abs p.x) (pos 0); new = z } ∷ []) []) l
          ≡ set_all (cond b ((nat_abs p.y * w + nat_abs p.x) ∷ []) []) z l
      go true = refl
      go false = refl

  -- the raw changes paint the index at each place
  pub painted-places : (ps : List Point) (l : List ℤ) → painted new_of w (changes_at w l₀ region z ps) l ≡ set_all (places_of region w ps) z l
  unfolding changes_at places_of painted set_all flat_map
  painted-places [] l = refl
  painted-places (p ∷ ps) l =
      painted-append w (change_at w l₀ region z p) (flat_map (change_at w l₀ region z) ps) l
      ∙ ap (painted new_of w (flat_map (change_at w l₀ region z) ps)) (one p l)
      ∙ painted-places ps (set_all (place_at region w p) z l)
      ∙ sym (set-append (place_at region w p) (flat_map (place_at region w) ps) z l)
