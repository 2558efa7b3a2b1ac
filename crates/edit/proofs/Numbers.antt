-- No number that an edit's own checks give is that of a full journal. Assumes nothing.
use mathlib.Core.Path.{◌≡◌, refl}
use mathlib.Core.Bool.{Bool, false}
use mathlib.Core.List.{List, flat_map}
use borrow.Author.Tests.{eqb-false}
use lib.Dec.{eqb}
use Rattle.base.specs.Numbers.{journal_full}
use Rattle.base.specs.Checks.{Check, first_of}
use Rattle.base.specs.Lists.{some}
use Rattle.sheet.specs.Sheet.{Sheet}
use Rattle.base.specs.declared.Edit.{Edit}
use Rattle.base.specs.declared.Edit.TheVariants.{Pixels, PaletteSet, PaletteAdd, PaletteRemove, PaletteLock}
use Rattle.edit.specs.declared.ListKind.{ListKind}
use Rattle.edit.specs.declared.ListKind.TheVariants.{NoList, PixelList, RemapList}
use Rattle.edit.specs.Change.{Change}
use Rattle.edit.specs.List.{list_of}
use Rattle.edit.specs.Checks.{Permitted, pixel_checks, remap_checks, head_checks, change_checks, left_checks, own_checks}
use Rattle.base.proofs.Nowhere.{nowhere-append, nowhere-flat_map}
use Rattle.edit.proofs.FirstCheck.{first-nowhere}

-- 14
abbrev is14 : Check → Bool
is14 c = eqb c.number journal_full

module _ (replay : Bool) (s : Sheet) (locks : List Bool) (p : Permitted) where
  head-none : (e : Edit) → some is14 (head_checks replay s locks p e) ≡ false
  unfolding some head_checks
  head-none (Pixels tool) = refl
  head-none (PaletteSet i old new lab) = refl
  head-none (PaletteAdd c) = refl
  head-none (PaletteRemove i c lab) = refl
  head-none (PaletteLock i old new) = refl

  change-none : (l : ListKind) (c : Change) → some is14 (change_checks replay s l c) ≡ false
  unfolding some change_checks pixel_checks remap_checks
  change-none NoList c = refl
  change-none PixelList c = refl
  change-none (RemapList i) c = refl

  left-none : (l : ListKind) (cs : List Change) → some is14 (left_checks s l cs) ≡ false
  unfolding some left_checks
  left-none NoList cs = refl
  left-none PixelList cs = refl
  left-none (RemapList i) cs = refl

  none-past : (e : Edit) (cs : List Change) → some is14 (own_checks replay s locks p e cs) ≡ false
  unfolding own_checks
  none-past e cs =
      nowhere-append is14 (head_checks replay s locks p e) _ (head-none e)
      (nowhere-append is14 (flat_map (change_checks replay s (list_of e)) cs) _ (nowhere-flat_map is14 _ (change-none (list_of e)) cs) (left-none (list_of e) cs))

  pub own-number : (e : Edit) (cs : List Change) → ¬ (first_of (own_checks replay s locks p e cs) ≡ journal_full)
  own-number e cs h =
      let q : eqb (first_of (own_checks replay s locks p e cs)) journal_full ≡ false = first-nowhere (λ n. eqb n journal_full) refl (own_checks replay s locks p e cs) (none-past e cs) in
      eqb-false _ _ q h
