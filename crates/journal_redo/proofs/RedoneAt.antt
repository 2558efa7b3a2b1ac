-- Redo of a record: what its steps ask, and that they make the sheet that redo makes. Assumes nothing.
use mathlib.Core.Path.{◌≡◌, ◌∙◌}
use mathlib.Core.Bool.{Bool, true, false}
use mathlib.Core.List.{List}
use Prim.Native.Nat.{ℕ, ◌+◌}
use borrow.Author.Tests.{eqb-true}
use lib.Dec.{leb}
use lib.IntN.{ℤ}
use lib.Ieee.{Float}
use lib.ListN.{length}
use Rattle.base.specs.Limits.{max_changes}
use Rattle.base.proofs.Bools.{and_right}
use Rattle.base.specs.declared.Lab.{Lab}
use Rattle.base.specs.declared.Rgb.{Rgb}
use Rattle.sheet.specs.Sheet.{Sheet, sheet_of}
use Rattle.sheet.specs.Checks.{WellFormed}
use Rattle.base.specs.declared.Form.{Form}
use Rattle.base.specs.declared.Edit.{Edit}
use Rattle.edit.specs.Change.{Change}
use Rattle.edit.specs.List.{list_of, painted_list}
use Rattle.edit.specs.Apply.{restDone, redone}
use Rattle.edit.specs.Locks.{locks_done}
use Rattle.edit.specs.declared.ListKind.{ListKind}
use Rattle.edit_locks.specs.Movable as movable
use Rattle.edit_list.specs.Paintable.{Paintable}
use Rattle.edit_apply.specs.Redoable.{Finishable, Redoable}
use Rattle.edit_apply.proofs.Redoing.{redoable-paints, redoable-finishes, marks-redo}
use Rattle.journal_record.specs.Record.{changes_in}
use Rattle.journal_read.specs.Lies.{edit_at, changes_at, list_offset, Lies}
use Rattle.journal_read.proofs.Rooms.{read-list, read-changes}
use Rattle.journal_read.specs.Sound.{any_colour, redoable}

-- a record that redo takes
pub may-redo : (w h k : ℕ) (palette : List ℕ) (lab : List Float) (indices : List ℤ) (locks : List Bool) (e : Edit) (cs : List Change)
    → WellFormed (sheet_of w h k palette lab indices) → redoable (sheet_of w h k palette lab indices) locks e cs ≡ true → Redoable w k palette lab indices e cs
unfolding redoable
may-redo w h k palette lab indices locks e cs f q =
    record {
      h = h;
      limits = f.limits;
      unrefused = record { replay = false; locks = locks; permitted = any_colour; passes = eqb-true _ 0 (and_right (leb (length cs) max_changes) _ q) };
    }

-- ---- as the record is read
module _ {f : Form} {journal : List ℕ} {kind start count : ℕ} (l : Lies f journal kind start count) {edit : Edit} (edit-is : edit ≡ edit_at journal kind start)
    {list : ListKind} (list-is : list ≡ list_of edit) {offset : ℕ} (offset-is : offset ≡ list_offset list) where
  abbrev cs : ℕ → List Change
  cs w = changes_in f w journal (start + offset) count

  pub list-paints : {w k : ℕ} {palette : List ℕ} {lab : List Float} {indices : List ℤ}
      → Redoable w k palette lab indices (edit_at journal kind start) (changes_at f w journal kind start count) → Paintable list w (length indices) (cs w)
  list-paints {w} r = rw (read-list l edit-is list-is offset-is, read-changes l edit-is list-is offset-is w) (redoable-paints (edit_at journal kind start) r)

  pub rest-finishes : {w k : ℕ} {palette : List ℕ} {lab : List Float} {indices : List ℤ}
      → Redoable w k palette lab indices (edit_at journal kind start) (changes_at f w journal kind start count) → Finishable k (length palette) (length lab) edit
  rest-finishes r = rw edit-is (redoable-finishes (edit_at journal kind start) r)

  -- 255 marks are moved with their entries
  pub marks-move : {w k : ℕ} {palette : List ℕ} {lab : List Float} {indices : List ℤ}
      → Redoable w k palette lab indices (edit_at journal kind start) (changes_at f w journal kind start count) → {n : ℕ} → n ≡ 255 → movable.Redoable k n edit
  marks-move {w} {k} {palette} {lab} {indices} r {n} q =
      rw edit-is (marks-redo (sheet_of w r.h k palette lab indices) (changes_at f w journal kind start count) r.limits n q (edit_at journal kind start) r.unrefused)

  pub marks-done : (k : ℕ) (locks : List Bool) {marks : List Bool} → marks ≡ locks_done k locks edit → marks ≡ locks_done k locks (edit_at journal kind start)
  marks-done k locks q = q ∙ rw edit-is

  -- the list painted, and the rest done
  pub redone-by : (curve : Rgb → Lab) (w h k : ℕ) (palette : List ℕ) (lab : List Float) (indices : List ℤ) {painted : List ℤ} {s : Sheet} → painted ≡ painted_list list w (cs w) indices → s ≡ restDone curve (sheet_of w h k palette lab painted) edit
      → s ≡ redone curve (sheet_of w h k palette lab indices) (edit_at journal kind start) (changes_at f w journal kind start count)
  unfolding redone
  redone-by curve w h k palette lab indices p q = q ∙ rw (p, read-list l edit-is list-is offset-is, read-changes l edit-is list-is offset-is w, edit-is)
