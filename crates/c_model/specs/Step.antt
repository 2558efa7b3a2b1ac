-- A call through the crate for C hosts: document 02, E12. "Each call gives the core's answer, numbered as by `panel`,
-- and the buffer afterwards is the flat form of the core's sheet." Definitions only. Assumes nothing.
use Rattle.std.specs.Prelude.{ℕ, Bool, ◌||◌, List, [], ◌∷◌, length, ◌≡◌}
use Rattle.base.specs.Numbers.{flat_misfit}
use Rattle.base.specs.Checks.{◌when◌}
use Rattle.base.specs.Answer.{number}
use Rattle.base.specs.Answer.Told.{result, alone}
use Rattle.base.specs.declared.Handle.{Handle}
use Rattle.history_ledger.specs.Calls.{Call, Answer, Outcome, guarded}
use Rattle.history_ledger.specs.Calls.Call.{push, undo, redo, mark}
use Rattle.history_ledger.specs.Journal.{State, pushOf, undoOf, redoOf, mark_of}
use Rattle.history_model.specs.Document.{Document, document_of}
use Rattle.history_model.specs.Calls.{state_of}
use Rattle.c_form.specs.Flat.{width_in, height_in, count_in, palette_in, lab_in, indices_in, locks_in, sheet_over, handle_in, handle_over, sheet_misfits, handle_misfits}
use Rattle.c_model.specs.Asked.{Asked, flat_editing}

-- ---- the sheet and its marks that a buffer holds, and written over it: its size stays
unfoldable pub sheet_in : List ℕ → Document
sheet_in b = document_of (width_in b) (height_in b) (count_in b) (palette_in b) (lab_in b) (indices_in b) (locks_in b)

abbrev pub flat_over : Document → List ℕ → List ℕ
flat_over d b = sheet_over d.sheet.k d.sheet.palette d.sheet.lab d.sheet.indices d.locks b

-- ---- what a call is lent: "numbers and byte buffers only"
pub record Flat : Type 0 where
  pub sheet : List ℕ
  pub journal : List ℕ
  pub handle : List ℕ

abbrev pub flat_of : List ℕ → List ℕ → List ℕ → Flat
flat_of sheet journal handle = record { sheet = sheet; journal = journal; handle = handle }

-- what the buffers hold
abbrev pub state_in : Flat → State Document
state_in s = state_of (sheet_in s.sheet) s.journal (handle_in s.handle)

-- ---- push, undo and redo: where the core's answer is "done", what it leaves in flat form; else every byte keeps
unfoldable pub flat_left : Flat → Answer → State Document → Flat
flat_left s (result d) st = flat_of (flat_over st.sheet s.sheet) st.journal (handle_over st.handle s.handle)
flat_left s (alone n) st = s

unfoldable pub flattened : Flat → Outcome (State Document) → Outcome Flat
flattened s o = record { answer = o.answer; leaves = flat_left s o.answer o.leaves }

-- 28 "before all others"
abbrev pub misfits : Flat → Bool
misfits s = sheet_misfits s.sheet || handle_misfits s.handle

unfoldable pub moved : Flat → Outcome (State Document) → Outcome Flat
moved s o = guarded s (flat_misfit when misfits s ∷ []) (flattened s o)

-- ---- mark: the core's looks at no sheet; that it fits is asked here, as of every call
unfoldable pub handle_left : List ℕ → Answer → Handle → List ℕ
handle_left b (result d) h = handle_over h b
handle_left b (alone n) h = b

unfoldable pub flat_mark : List ℕ → ℕ → List ℕ → Outcome (List ℕ)
flat_mark sheet n b =
    let o = mark_of n (handle_in b) in
    guarded b (flat_misfit when (sheet_misfits sheet || handle_misfits b) ∷ [])
    (record { answer = o.answer; leaves = handle_left b o.answer o.leaves })

-- ---- a call. "Scratch is the crate's own": a place for each pixel of the largest sheet
abbrev pub flat_room : ℕ
flat_room = 4096

unfoldable pub flat_step : Flat → Call Asked → Outcome Flat
flat_step s (push a) = moved s (pushOf flat_editing flat_room (state_in s) a)
flat_step s undo = moved s (undoOf flat_editing (state_in s))
flat_step s redo = moved s (redoOf flat_editing flat_room (state_in s))
flat_step s mark =
    let o = flat_mark s.sheet (length s.journal) s.handle in
    record { answer = o.answer; leaves = flat_of s.sheet s.journal o.leaves }

-- ---- what a call answers and leaves: "00 done, FF still, else number"
abbrev pub FlatLeaves : ℕ → List ℕ → List ℕ → List ℕ → Outcome Flat → Type 0
FlatLeaves r sheet journal handle o = (r ≡ number o.answer) × (flat_of sheet journal handle ≡ o.leaves)
