-- What a frame asks for, told apart from what the history answers to it: an edit with its changes at the front of a list,
-- another call, or the number that refuses it. Definitions only. Assumes nothing.
use Rattle.std.specs.Prelude.{ℕ, ◌≤◌, ◌≡◌, List, map, length, take}
use Rattle.base.specs.declared.Form.{Form}
use Rattle.base.specs.declared.Handle.{Handle}
use Rattle.base.specs.declared.Removal.{Removal}
use Rattle.base.specs.declared.Removal.TheVariants as removal
use Rattle.color_curve.specs.Curve.{srgb}
use Rattle.edit.specs.Change.{unpacked}
use Rattle.history_ledger.specs.Calls.{Outcome, refused}
use Rattle.history_ledger.specs.Calls.Call.{push, undo, redo, mark}
use Rattle.history_ledger.specs.Journal.{State, step}
use Rattle.history_model.specs.Calls.{state_of}
use Rattle.history_model.specs.Document.{Document}
use Rattle.history_model.specs.Editing.{editing_by}
use Rattle.panel_frames.specs.declared.Frame.{Frame}
use Rattle.panel_model.specs.declared.Asked.{Asked}
use Rattle.panel_model.specs.declared.Asked.TheVariants as asked
use Rattle.panel_model.specs.Acts.{given, actBy}

-- what a history answers to what is asked
unfoldable pub answered : Form → ℕ → State Document → Asked → List ℕ → Outcome (State Document)
answered f room st (asked.Push e n) list = step (editing_by f srgb) room st (push (given e (map unpacked (take n list))))
answered f room st asked.Undo list = step (editing_by f srgb) room st undo
answered f room st asked.Redo list = step (editing_by f srgb) room st redo
answered f room st asked.Mark list = step (editing_by f srgb) room st mark
answered f room st (asked.Refused n) list = refused st n

-- the changes of a push stand in the list
unfoldable pub Listed : Asked → ℕ → Type 0
Listed (asked.Push e n) list = n ≤ list
Listed asked.Undo list = Unit {0}
Listed asked.Redo list = Unit {0}
Listed asked.Mark list = Unit {0}
Listed (asked.Refused n) list = Unit {0}

-- `r`, with the list after it, is what a frame asks of a history that stands at the document, whatever its journal is
pub record Asks (d : Document) (g : Frame) (list : List ℕ) (r : Asked) (after : List ℕ) : Type 0 where
  pub listed : Listed r (length after)
  pub answers : (f : Form) (room : ℕ) (journal : List ℕ) (h : Handle)
      → answered f room (state_of d journal h) r after ≡ actBy f room (state_of d journal h) g (map unpacked list)

-- a merge asks for its edit, where no number refuses it
unfoldable pub asked_by : Removal → Asked
asked_by (removal.Made e n) = asked.Push e n
asked_by (removal.Refused n) = asked.Refused n
