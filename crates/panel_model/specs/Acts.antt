-- What a frame of `panel` asks of a history: document 01, "Program `panel`", and document 02, E11, which plays frames in
-- either form. `step` (history_ledger/specs/Journal.antt) answers the call, with `room` places of scratch. Definitions only.
-- Assumes nothing.
use Rattle.std.specs.Prelude.{ℕ, ◌≤◌, ◌≡◌, false, List, [], map, take}
use Rattle.base.specs.Numbers.{unread_frame}
use Rattle.base.specs.Triples.{rgb_at}
use Rattle.base.specs.declared.Form.{Form}
use Rattle.base.specs.declared.Edit.{Edit}
use Rattle.base.specs.declared.Edit.TheVariants as edit
use Rattle.color_curve.specs.Curve.{srgb}
use Rattle.edit.specs.Change.{Change, packed, unpacked}
use Rattle.edit.specs.Checks.{permitted_of}
use Rattle.edit_entries.specs.Unfilled.{no_lab}
use Rattle.palette_model.specs.Removal.{remap_of, merge_checks}
use Rattle.history_ledger.specs.Calls.{Outcome, refused, guarded}
use Rattle.history_ledger.specs.Calls.Call.{push, undo, redo, mark}
use Rattle.history_ledger.specs.Journal.{State, step}
use Rattle.history_model.specs.Document.{Document}
use Rattle.history_model.specs.Editing.{Given, given_of, editing_by}
use Rattle.panel_frames.specs.Reading.{changes_from}
use Rattle.panel_frames.specs.declared.Frame.{Frame}
use Rattle.panel_frames.specs.declared.Frame.TheVariants.{Open, Pixels, Set, Add, Merge, Undo, Redo, Mark, Malformed}

-- "no colour list"
abbrev pub given : Edit → List Change → Given
given e cs = record { permitted = permitted_of false []; edit = e; changes = cs }

-- the changes that a frame brings in its bytes
unfoldable pub changes_in : Frame → List ℕ → List Change
changes_in (Open w h k) bs = []
changes_in (Pixels tool n) bs = changes_from bs 2 n
changes_in (Set i c) bs = []
changes_in (Add c) bs = []
changes_in (Merge from into) bs = []
changes_in Undo bs = []
changes_in Redo bs = []
changes_in Mark bs = []
changes_in Malformed bs = []

-- the list has a pixel frame's changes, or room for a merge's: one a pixel, of m
unfoldable pub Roomy : Frame → ℕ → ℕ → Type 0
Roomy (Open w h k) m list = Unit {0}
Roomy (Pixels tool n) m list = n ≤ list
Roomy (Set i c) m list = Unit {0}
Roomy (Add c) m list = Unit {0}
Roomy (Merge from into) m list = m ≤ list
Roomy Undo m list = Unit {0}
Roomy Redo m list = Unit {0}
Roomy Mark m list = Unit {0}
Roomy Malformed m list = Unit {0}

module _ (f : Form) (room : ℕ) (st : State Document) where
  -- "04 from into": 18 comes first, then what the push of the merge answers
  unfoldable pub mergedBy : ℕ → ℕ → Outcome (State Document)
  mergedBy from into =
      let s = st.sheet.sheet in
      guarded st (merge_checks s st.sheet.locks from into)
      (step (editing_by f srgb) room st (push (given_of false [] (edit.PaletteRemove from (rgb_at s.palette from) no_lab)
      (map packed (remap_of s.w s.indices from into)))))

  -- a pixel frame's changes are the first n of the list; push fills in old colour and old LAB. 22 for an opening and for
  -- a "malformed line"
  unfoldable pub actBy : Frame → List Change → Outcome (State Document)
  actBy (Open w h k) cs = refused st unread_frame
  actBy (Pixels tool n) cs = step (editing_by f srgb) room st (push (given (edit.Pixels tool) (take n cs)))
  actBy (Set i c) cs = step (editing_by f srgb) room st (push (given (edit.PaletteSet i c c no_lab) []))
  actBy (Add c) cs = step (editing_by f srgb) room st (push (given (edit.PaletteAdd c) []))
  actBy (Merge from into) cs = mergedBy from into
  actBy Undo cs = step (editing_by f srgb) room st undo
  actBy Redo cs = step (editing_by f srgb) room st redo
  actBy Mark cs = step (editing_by f srgb) room st mark
  actBy Malformed cs = refused st unread_frame

-- the changes of a frame stand at the front of a list: with the list it asks what it asks with its own bytes
pub record Brought (g : Frame) (bs list : List ℕ) : Type 0 where
  pub same : (f : Form) (room : ℕ) (st : State Document) → actBy f room st g (map unpacked list) ≡ actBy f room st g (changes_in g bs)
