-- The olds of `replace_color` and `fill_global` are the sheet's indices. Assumes nothing.
use Prim.Native.Nat.{ℕ}
use mathlib.Core.Path.{◌≡◌, refl, sym}
use mathlib.Core.Bool.{Bool, true, false, cond}
use mathlib.Core.List.{List, [], ◌∷◌, map}
use lib.IntN.{ℤ, pos}
use lib.ListN.{get_or}
use Rattle.base.specs.Ints.{eq_z}
use Rattle.base.proofs.Back.{same_index}
use Rattle.sheet.specs.Sheet.{Sheet}
use mathlib.Core.Option.{Option}
use mathlib.Core.Option as option
use Rattle.sheet.specs.Document.{index_at}
use Rattle.selection_spans.specs.Positions.{Position}
use Rattle.selection.specs.declared.Selection.{Selection}
use Rattle.selection.specs.Selection.{positions, contains_i}
use Rattle.edit.specs.Change.{Change, place}
use Rattle.base.specs.Lists.{All, kept}
use Rattle.change_normal.specs.Laws.{SheetOlds}
use Rattle.tool_fill_model.specs.Fills.{has_index, replacing, replaced, from_pixel, global}

module _ (w : ℕ) (l : List ℤ) where
  none : SheetOlds w l []
  unfolding SheetOlds All
  none = tt

  abbrev olds : Change → Type 0
  olds c = c.old ≡ get_or l (place w c) (pos 0)

  here : (from to : ℤ) (p : Position) → has_index w l from p ≡ true → olds (replacing from to p)
  unfolding has_index replacing place
  here from to p e = sym (same_index _ _ e)

  listed-olds : (from to : ℤ) (ps : List Position) → SheetOlds w l (map (replacing from to) (kept (has_index w l from) ps))
  unfolding SheetOlds All kept
  listed-olds from to [] = tt
  listed-olds from to (p ∷ ps) = go (has_index w l from p) refl (listed-olds from to ps)
    where
      go : (b : Bool) → has_index w l from p ≡ b → All olds (map (replacing from to) (kept (has_index w l from) ps))
          → All olds (map (replacing from to) (cond b (p ∷ kept (has_index w l from) ps) (kept (has_index w l from) ps)))
      go true e rest = (here from to p e, rest)
      go false e rest = rest

  pub replaced-olds : (region : Selection) (from to : ℤ) → SheetOlds w l (replaced w l region from to)
  unfolding replaced
  replaced-olds region from to = go (eq_z from to)
    where
      go : (b : Bool) → SheetOlds w l (cond b [] (map (replacing from to) (kept (has_index w l from) (positions region))))
      go true = none
      go false = listed-olds from to (positions region)

pub global-olds : (s : Sheet) (region : Selection) (x y index : ℤ) → SheetOlds s.w s.indices (global s region x y index)
unfolding global from_pixel
global-olds s region x y index = go (index_at s.w s.h s.indices x y) (contains_i region x y)
  where
    go : (g : Option ℤ) (b : Bool) → SheetOlds s.w s.indices (from_pixel g b (λ from. replaced s.w s.indices region from index))
    go (option.some from) true = replaced-olds s.w s.indices region from index
    go (option.some from) false = none s.w s.indices
    go option.none b = none s.w s.indices
