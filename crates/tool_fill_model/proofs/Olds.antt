-- The olds of a flood are the sheet's indices: what is reached has the index at the start. Assumes nothing.
use Prim.Native.Nat.{ℕ, zero, suc, ◌/◌, ◌%◌}
use mathlib.Core.Path.{◌≡◌, refl, sym, ap}
use mathlib.Core.Bool.{Bool, true, false, cond}
use mathlib.Core.List.{List, [], ◌∷◌, map}
use mathlib.Core.Logic.{⊎_elim}
use native.Mathlib.Nat.{div-add-mod'}
use lib.Dec.{ltb}
use borrow.Author.Tests.{eqb-true}
use lib.IntN.{ℤ, pos}
use lib.ListN.{length, get_or}
use Rattle.base.specs.Lists.{range, kept, All}
use Rattle.base.proofs.Bools.{and_left, and_right}
use Rattle.base.proofs.Back.{same_index}
use Rattle.selection.specs.declared.Selection.{Selection}
use Rattle.selection.specs.Selection.{contains}
use Rattle.edit.specs.Change.{Change, place}
use Rattle.change_normal.specs.Laws.{SheetOlds}
use Rattle.tool_fill_model.specs.Flood.{neighbour, passable, reached, flooded, change_at, flood_of}
use Rattle.tool_fill_model.proofs.Reachable.{or_case}

module _ (w : ℕ) (l : List ℤ) (region : Selection) (start : ℕ) where
  abbrev target : ℤ
  target = get_or l start (pos 0)

  passed : (p : ℕ) → passable w l region start p ≡ true → get_or l p (pos 0) ≡ target
  unfolding passable
  passed p e =
      let there = and_right (contains region (p % w) (p / w)) _ (and_right (ltb p (length l)) _ e) in
      same_index (get_or l p (pos 0)) target there

  reached-index : (k p : ℕ) → reached (neighbour w (length l)) (passable w l region start) start k p ≡ true → get_or l p (pos 0) ≡ target
  unfolding reached
  reached-index zero p e = ap (λ (q : ℕ). get_or l q (pos 0)) (eqb-true p start e)
  reached-index (suc k) p e = ⊎_elim (reached-index k p) (λ b. passed p (and_left _ _ b)) (or_case _ _ e)

  module _ (index : ℤ) where
    abbrev olds : Change → Type 0
    olds c = c.old ≡ get_or l (place w c) (pos 0)

    here : (p : ℕ) → flooded w l region start p ≡ true → olds (change_at w target index p)
    unfolding flooded change_at place
    here p e = rw (div-add-mod' p w) (sym (reached-index (length l) p e))

    kept-olds : (ps : List ℕ) → All olds (map (change_at w target index) (kept (flooded w l region start) ps))
    unfolding All kept
    kept-olds [] = tt
    kept-olds (p ∷ ps) = go (flooded w l region start p) refl (kept-olds ps)
      where
        go : (b : Bool) → flooded w l region start p ≡ b → All olds (map (change_at w target index) (kept (flooded w l region start) ps))
            → All olds (map (change_at w target index) (cond b (p ∷ kept (flooded w l region start) ps) (kept (flooded w l region start) ps)))
        go true e rest = (here p e, rest)
        go false e rest = rest

    pub flood-olds : SheetOlds w l (flood_of w l region start index)
    unfolding flood_of SheetOlds
    flood-olds = kept-olds (range 0 (length l))
