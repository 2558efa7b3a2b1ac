-- What `mark_saved` leaves, as the definitions have it. Assumes nothing.
use Prim.Native.Nat.{ℕ}
use mathlib.Core.Path.{◌≡◌}
use mathlib.Core.Bool.{Bool}
use mathlib.Core.List.{List}
use lib.IntN.{ℤ}
use lib.Ieee.{Float}
use lib.ListN.{length}
use Rattle.base.specs.declared.Form.{Form}
use Rattle.base.specs.declared.Handle.{Handle}
use Rattle.base.specs.declared.Moved.{Moved}
use Rattle.color_curve.specs.Curve.{srgb}
use Rattle.history_ledger.specs.Calls.Call.{mark}
use Rattle.history_ledger.specs.Journal.{mark_of, step}
use Rattle.history_model.specs.Document.{document_of}
use Rattle.history_model.specs.Editing.{editing_by}
use Rattle.history_model.specs.Calls.{state_of, leaves, outcome_of}

pub leaves-marked : (f : Form) (room : ℕ) (m : Moved) (w h k : ℕ) (palette : List ℕ) (lab : List Float) (indices : List ℤ) (locks : List Bool) (journal : List ℕ) (handle : Handle)
    → (outcome_of m.answer m.handle ≡ mark_of (length journal) handle) × (m.k ≡ k)
    → leaves m w h palette lab indices locks journal ≡ step (editing_by f srgb) room (state_of (document_of w h k palette lab indices locks) journal handle) mark
leaves-marked f room m w h k palette lab indices locks journal handle e i =
    record { answer = (e.0 i).answer; leaves = state_of (document_of w h (e.1 i) palette lab indices locks) journal (e.0 i).leaves }
