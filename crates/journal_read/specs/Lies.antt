-- A record that lies in the journal: what it holds, by its kind, 1 to 5 in either form, and the offset at which it starts. Definitions only. Assumes nothing.
use Rattle.std.specs.Prelude.{◌≡◌, List, [], ℕ, ◌+◌, ◌≤◌, length, get_or}
use Rattle.base.specs.declared.Form.{Form}
use Rattle.base.specs.declared.Form.TheVariants.{Coordinates}
use Rattle.base.specs.declared.Edit.{Edit}
use Rattle.base.specs.declared.Edit.TheVariants.{Pixels, PaletteSet, PaletteAdd, PaletteRemove, PaletteLock}
use Rattle.edit.specs.declared.ListKind.{ListKind}
use Rattle.edit.specs.declared.ListKind.TheVariants.{NoList, PixelList, RemapList}
use Rattle.edit.specs.Change.{Change}
use Rattle.journal_record.specs.Record.{record_length, rgb_in, lab_in, mark_in, changes_in, by_kind}

unfoldable pub edit_at : List ℕ → ℕ → ℕ → Edit
edit_at journal kind start =
    by_kind Coordinates kind
    (Pixels (get_or journal (start + 1) 0))
    (PaletteSet (get_or journal (start + 1) 0) (rgb_in journal (start + 2)) (rgb_in journal (start + 5)) (lab_in journal (start + 8)))
    (PaletteAdd (rgb_in journal (start + 1)))
    (PaletteRemove (get_or journal (start + 1) 0) (rgb_in journal (start + 2)) (lab_in journal (start + 5)))
    (PaletteLock (get_or journal (start + 1) 0) (mark_in journal (start + 2)) (mark_in journal (start + 3)))
    (Pixels 0)

unfoldable pub changes_at : Form → ℕ → List ℕ → ℕ → ℕ → ℕ → List Change
changes_at f w journal kind start count =
    by_kind Coordinates kind (changes_in f w journal (start + 6) count) [] [] (changes_in f w journal (start + 33) count) [] []

-- where a list stands in its record, counted from the record's start
abbrev pub list_offset : ListKind → ℕ
list_offset NoList = 0
list_offset PixelList = 6
list_offset (RemapList i) = 33

-- how many changes a record has by its kind, where its count is so many
unfoldable pub count_at : ℕ → ℕ → ℕ
count_at kind count = by_kind Coordinates kind count 0 0 count 0 0

-- a record of one of the five kinds and so many changes, all of it inside the journal
pub record Lies (f : Form) (journal : List ℕ) (kind start count : ℕ) : Type 0 where
  pub least : 1 ≤ kind
  pub most : kind ≤ 5
  pub counts : count_at kind count ≡ count
  pub inside : start + record_length f (edit_at journal kind start) count ≤ length journal
