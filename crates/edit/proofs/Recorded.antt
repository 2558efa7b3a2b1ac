-- What the list of a recorded edit holds is in range: places on the sheet, and olds and news among its indices. Assumes nothing.
use mathlib.Core.Path.{◌≡◌, subst, ◌∙◌}
use mathlib.Core.Bool.{Bool, false}
use mathlib.Core.List.{List, map}
use Rattle.base.specs.Lists.{some}
use Rattle.sheet.specs.Sheet.{Sheet, stray}
use Rattle.sheet.specs.Checks.{WellFormed}
use Rattle.base.specs.declared.Edit.{Edit}
use Rattle.base.specs.declared.Edit.TheVariants.{Pixels, PaletteSet, PaletteAdd, PaletteRemove, PaletteLock}
use Rattle.edit.specs.Change.{Change, outside, new_of, old_of, filled_in}
use Rattle.edit.specs.Checks.{Permitted}
use Rattle.edit.specs.declared.ListKind.{ListKind}
use Rattle.edit.specs.declared.ListKind.TheVariants.{NoList, PixelList, RemapList}
use Rattle.edit.specs.List.{list_of, filled_list}
use Rattle.edit.specs.Apply.{filled_changes}
use Rattle.edit.specs.Accepted.{Accepted}
use Rattle.base.proofs.Nowhere.{some-map}
use Rattle.edit.proofs.Painting.{filled-outside, olds-in-range}
use Rattle.edit.proofs.Passed.{Passed, passed}

-- a list of changes on a sheet's picture, with indices of that picture
pub record Recorded (s : Sheet) (cs : List Change) : Type 0 where
  pub inside : some (outside s.w s.h) cs ≡ false
  pub olds : some (λ c. stray s.k (old_of c)) cs ≡ false
  pub news : some (λ c. stray s.k (new_of c)) cs ≡ false

-- the list of a recorded edit, where the edit has one
abbrev pub ListFits : Sheet → ListKind → List Change → Type 0
ListFits s NoList cs = Unit {0}
ListFits s PixelList cs = Recorded s cs
ListFits s (RemapList i) cs = Recorded s cs

-- filled in from the sheet that the changes are on
filled-recorded : (s : Sheet) (cs : List Change) → WellFormed s → some (outside s.w s.h) cs ≡ false → some (λ c. stray s.k (new_of c)) cs ≡ false
    → Recorded s (map (filled_in s.w s.indices) cs)
unfolding filled_in
filled-recorded s cs f o n =
    record {
      inside = filled-outside s.w s.indices s.w s.h cs ∙ o;
      olds = olds-in-range s.w s.h s.k s.indices cs f.limits.indices-length f.in-range o;
      news = some-map (filled_in s.w s.indices) (λ c. stray s.k (new_of c)) cs ∙ n;
    }

list-fits : (s : Sheet) (e : Edit) (cs : List Change) → WellFormed s → Passed s e cs → ListFits s (list_of e) (filled_changes s e cs)
unfolding filled_changes filled_list
list-fits s (Pixels tool) cs f a = filled-recorded s cs f a.inside a.in-range
list-fits s (PaletteSet i old new lab) cs f a = tt
list-fits s (PaletteAdd c) cs f a = tt
list-fits s (PaletteLock i old new) cs f a = tt
list-fits s (PaletteRemove i c lab) cs f a = subst (Recorded s) a.remap.filled (filled-recorded s cs f a.remap.inside a.remap.in-range)

pub recorded-list : {s : Sheet} {locks : List Bool} {p : Permitted} {e : Edit} {cs : List Change} → Accepted s locks p e cs → ListFits s (list_of e) (filled_changes s e cs)
recorded-list {s} {locks} {p} {e} {cs} a = list-fits s e cs a.fits (passed false s locks p e cs a.unrefused)
