-- `remove_entry` and `merge_entries` of palette.rs: the remap, and the calls. Definitions only. Assumes nothing.
use Rattle.std.specs.Prelude.{ℕ, ◌/◌, ◌%◌, Bool, ◌||◌, List, [], ◌∷◌, ◌++◌, map, ltb, leb, eqb, ℤ, pos, length}
use Rattle.base.specs.Numbers.{bad_merge, entry_locked, no_space}
use Rattle.base.specs.Checks.{Check, ◌when◌, checked}
use Rattle.base.specs.Lists.{over}
use Rattle.sheet.specs.Sheet.{Sheet}
use Rattle.sheet.specs.Checks.{mark_checks, sheet_checks}
use Rattle.base.specs.Triples.{rgb_at}
use Rattle.base.specs.declared.Edit.TheVariants.{PaletteRemove}
use Rattle.edit.specs.Change.{Change, packed}
use Rattle.edit.specs.Locks.{lock_at}
use Rattle.edit_pixels.specs.Listing.{places_from}
use Rattle.edit_entries.specs.Unfilled.{no_lab}
use Rattle.palette_model.specs.Nearest.{removal_checks, substitute}
use Rattle.base.specs.declared.Removal.{Removal}
use Rattle.base.specs.declared.Removed.{Removed}
use Rattle.base.specs.Answer.{Told, Op, op, removal_told, EntryAt, Replacement, replacement, removed_told}
use Rattle.base.specs.Answer.Told.{result, alone}

-- ---- "`remove_to` lists the entry's pixels in row order"
-- the change of the pixel at a place, on a sheet of width w
unfoldable pub moved : ℕ → ℕ → ℕ → ℕ → Change
moved w i target p = record { x = p % w; y = p / w; old = pos i; new = pos target }

unfoldable pub remap_of : ℕ → List ℤ → ℕ → ℕ → List Change
remap_of w indices i target = map (moved w i target) (places_from (pos i) 0 indices)

-- ---- the answer, and the list
pub record WithList (R : Type 0) : Type 0 where
  pub answer : Told R
  pub list : List ℕ

abbrev pub remapping : {R : Type 0} → Told R → List ℕ → WithList R
remapping told list = record { answer = told; list = list }

-- of `merge_entries`
abbrev pub Remapped : Type 0
Remapped = WithList Op

abbrev pub remapped : Removal → List ℕ → Remapped
remapped answer list = remapping (removal_told answer) list

-- of `remove_entry`
abbrev pub Replaced : Type 0
Replaced = WithList Replacement

abbrev pub replaced : Removed → List ℕ → Replaced
replaced answer list = remapping (removed_told answer) list

-- a removal, and the entry that its pixels move to
unfoldable pub with_target : EntryAt → Told Op → Told Replacement
with_target into (result made) = result (replacement made into)
with_target into (alone n) = alone n

-- a call's checks, then 16; the edit, with what the call hands back beside it, and its remap at the front of the list
unfoldable pub remove_to : {R : Type 0} → (Op → R) → List Check → ℕ → List ℕ → List ℤ → ℕ → ℕ → List ℕ → WithList R
remove_to handed checks w palette indices i target list =
    let remap = remap_of w indices i target in
    checked (checks ++ (no_space when ltb (length list) (length remap) ∷ []))
    (λ n. remapping (alone n) list)
    (remapping (result (handed (op (PaletteRemove i (rgb_at palette i) no_lab) (length remap)))) (over (map packed remap) list))

-- "Remove entry `index`; its pixels (if any) move to the nearest remaining entry"; that entry and its distance are
-- handed back (document 02, E3)
unfoldable pub remove_entry_of : Sheet → List Bool → ℕ → List ℕ → Replaced
remove_entry_of s locks i list =
    let into = substitute s.lab s.k i in
    remove_to (λ made. replacement made into) (removal_checks s locks i) s.w s.palette s.indices i into.index list

-- 18: "from or into ≥ k, or equal"; 24 "after 18 in a merge" (document 02, E5), of the entry that goes
unfoldable pub merge_checks : Sheet → List Bool → ℕ → ℕ → List Check
merge_checks s locks from into =
    sheet_checks (mark_checks locks) s
    ++ (bad_merge when (leb s.k from || (leb s.k into || eqb from into)) ∷ entry_locked when lock_at locks from ∷ [])

-- "Merge entry `from` into `into`: every pixel of `from` becomes `into`, `from` is removed"
unfoldable pub merge_entries_of : Sheet → List Bool → ℕ → ℕ → List ℕ → Remapped
merge_entries_of s locks from into list =
    remove_to (λ made. made) (merge_checks s locks from into) s.w s.palette s.indices from into list
