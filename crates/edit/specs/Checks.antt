-- The checks of an edit, in document 01's order: "Pixels: per change 5, 6, 11. Set: 7, 11, 10. Add: 8, 10. Remove: 7, 9, 11, per change 5, 12,
-- then 13." Document 02, E5, adds 24 "directly after 7", and a lock's own. Definitions only. Assumes nothing.
use Rattle.std.specs.Prelude.{ℕ, suc, Bool, false, not, ◌&&◌, ◌||◌, ltb, leb, eqb, ℤ, pos, negsuc, get_or}
use Rattle.std.specs.Bool.{beq}
use mathlib.Core.List.{List, [], ◌∷◌, ◌++◌, flat_map}
use Rattle.base.specs.Limits.{max_entries}
use Rattle.base.specs.Numbers.{off_the_sheet, no_such_index, no_such_entry, palette_full, last_entry, colour_not_permitted, stale, bad_remap, still_used, entry_locked}
use Rattle.base.specs.Checks.{Check, ◌when◌}
use Rattle.base.specs.declared.Rgb.{Rgb}
use Rattle.base.specs.Lists.{some}
use Rattle.base.specs.Ints.{eq_z}
use Rattle.sheet.specs.Sheet.{Sheet, Picture, sheet_of, stray}
use Rattle.base.specs.Triples.{rgb_at}
use Rattle.base.specs.declared.Edit.{Edit}
use Rattle.base.specs.declared.Edit.TheVariants.{Pixels, PaletteSet, PaletteAdd, PaletteRemove, PaletteLock}
use Rattle.edit.specs.declared.ListKind.{ListKind}
use Rattle.edit.specs.declared.ListKind.TheVariants.{NoList, PixelList, RemapList}
use Rattle.edit.specs.Change.{Change, place, outside}
use Rattle.edit.specs.List.{list_of}
use Rattle.edit.specs.Locks.{lock_at}

unfoldable pub same_rgb : Rgb → Rgb → Bool
same_rgb a b = eqb a.r b.r && (eqb a.g b.g && eqb a.b b.b)

-- "an empty list permits none": the colour is among those of the list, three bytes each
unfoldable pub listed : List ℕ → Rgb → Bool
listed (r ∷ g ∷ b ∷ rest) c = same_rgb (record { r = r; g = g; b = b }) c || listed rest c
listed (r ∷ g ∷ []) c = false
listed (r ∷ []) c = false
listed [] c = false

-- the colours that a call permits: absent, or a list
pub record Permitted : Type 0 where
  pub limited : Bool
  pub colours : List ℕ

abbrev pub permitted_of : Bool → List ℕ → Permitted
permitted_of limited colours = record { limited = limited; colours = colours }

-- "not on a present list"
unfoldable pub barred : Permitted → Rgb → Bool
barred p c = p.limited && not (listed p.colours c)

-- the index that a change meets
abbrev pub pixel : Sheet → Change → ℤ
pixel s c = get_or s.indices (place s.w c) (pos 0)

-- "replay: old differs"; push and redo do not look
abbrev pub stale_when : Bool → Bool → Check
stale_when replay differs = stale when (replay && differs)

unfoldable pub pixel_checks : Bool → Sheet → Change → List Check
pixel_checks replay s c =
    off_the_sheet when outside s.w s.h c
    ∷ no_such_index when stray s.k c.new
    ∷ stale_when replay (not (eq_z (pixel s c) c.old))
    ∷ []

-- "pixel or old not the removed index; new outside 0..k-1 or equal to it"
unfoldable pub misdirected : Sheet → ℕ → Change → Bool
misdirected s i c =
    not (eq_z (pixel s c) (pos i))
    || (not (eq_z c.old (pos i))
    || (eq_z c.new (pos i)
    || (eq_z c.new (negsuc 0)
    || stray s.k c.new)))

unfoldable pub remap_checks : Sheet → ℕ → Change → List Check
remap_checks s i c = off_the_sheet when outside s.w s.h c ∷ bad_remap when misdirected s i c ∷ []

-- "a pixel of the entry not remapped": from place p on, one is on the entry and no change names it
unfoldable pub named : ℕ → List Change → ℕ → Bool
named w cs p = some (λ c. eqb (place w c) p) cs

unfoldable pub left_from : ℕ → ℕ → List Change → ℕ → List ℤ → Bool
left_from w i cs p [] = false
left_from w i cs p (z ∷ l) = (eq_z z (pos i) && not (named w cs p)) || left_from w i cs (suc p) l

-- ---- an edit's checks: before its list, of each change, and after the list
unfoldable pub head_checks : Bool → Sheet → List Bool → Permitted → Edit → List Check
head_checks replay s locks p (Pixels tool) = []
head_checks replay s locks p (PaletteSet i old new lab) =
    no_such_entry when leb s.k i
    ∷ entry_locked when lock_at locks i
    ∷ stale_when replay (not (same_rgb (rgb_at s.palette i) old))
    ∷ colour_not_permitted when barred p new
    ∷ []
head_checks replay s locks p (PaletteAdd c) = palette_full when leb max_entries s.k ∷ colour_not_permitted when barred p c ∷ []
head_checks replay s locks p (PaletteRemove i c lab) =
    no_such_entry when leb s.k i
    ∷ entry_locked when lock_at locks i
    ∷ last_entry when ltb s.k 2
    ∷ stale_when replay (not (same_rgb (rgb_at s.palette i) c))
    ∷ []
-- "An index past the palette gets 7"; "Replay of kind 5 gets 11, after 7, when the old mark differs"
head_checks replay s locks p (PaletteLock i old new) = no_such_entry when leb s.k i ∷ stale_when replay (not (beq (lock_at locks i) old)) ∷ []

-- an edit without a list does not look at the one that it is given
unfoldable pub change_checks : Bool → Sheet → ListKind → Change → List Check
change_checks replay s NoList c = []
change_checks replay s PixelList c = pixel_checks replay s c
change_checks replay s (RemapList i) c = remap_checks s i c

unfoldable pub left_checks : Sheet → ListKind → List Change → List Check
left_checks s NoList cs = []
left_checks s PixelList cs = []
left_checks s (RemapList i) cs = still_used when left_from s.w i cs 0 s.indices ∷ []

unfoldable pub own_checks : Bool → Sheet → List Bool → Permitted → Edit → List Change → List Check
own_checks replay s locks p e cs = head_checks replay s locks p e ++ (flat_map (change_checks replay s (list_of e)) cs ++ left_checks s (list_of e) cs)

-- a picture as a sheet of just its entries: on it the ledger tests what the calls test on theirs
abbrev pub as_sheet : Picture → Sheet
as_sheet p = sheet_of p.w p.h p.k p.colours p.labs p.indices
