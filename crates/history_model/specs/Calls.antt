-- What a call is handed and what it leaves, as the states of demand 3; and what the steps of a call ask of each other. Definitions only. Assumes nothing.
use Rattle.std.specs.Prelude.{◌≡◌, Bool, false, true, List, [], ◌∷◌, ℕ, ◌+◌, ◌≤◌, ℤ, Float, length}
use Rattle.base.specs.Limits.{max_changes, max_journal}
use Rattle.base.specs.Checks.{Check, first_of}
use Rattle.base.specs.Answer.{answer_told}
use Rattle.base.specs.declared.Answer.{Answer}
use Rattle.base.specs.declared.Form.{Form}
use Rattle.base.specs.declared.Form.TheVariants.{Coordinates}
use Rattle.color_curve.specs.Curve.{Curve, CurveFits}
use Rattle.sheet.specs.Checks.{WellFormed}
use Rattle.base.specs.declared.Edit.{Edit}
use Rattle.edit.specs.Change.{Change}
use Rattle.edit.specs.Checks.{Permitted, own_checks}
use Rattle.journal_record.specs.Record.{record_length}
use Rattle.base.specs.declared.Handle.{Handle}
use Rattle.history_ledger.specs.Handle.{sound}
use Rattle.history_ledger.specs.Calls.{Outcome}
use Rattle.history_ledger.specs.Journal.{State, long_journal, unsound, move_checks, entry_checks}
use Rattle.base.specs.declared.Moved.{Moved}
use Rattle.history_model.specs.Document.{Document, document_of}
use Rattle.history_model.specs.Editing.{Given, editing_by, editing}

-- sheet and marks, journal and handle
abbrev pub state_of : Document → List ℕ → Handle → State Document
state_of d journal handle = record { sheet = d; journal = journal; handle = handle }

-- what push, undo and redo leave: answer, handle and k come back by value, the rest in the lent buffers
abbrev pub leaves : Moved → ℕ → ℕ → List ℕ → List Float → List ℤ → List Bool → List ℕ → Outcome (State Document)
leaves m w h palette lab indices locks journal =
    record { answer = answer_told m.answer; leaves = state_of (document_of w h m.k palette lab indices locks) journal m.handle }

-- ---- a sheet, a journal and a handle that none of 1 to 4 refuses
pub record Standing (st : State Document) : Type 0 where
  pub fits : WellFormed st.sheet.sheet
  pub marks : length st.sheet.locks ≡ 255
  pub permitted : length st.journal ≤ max_journal
  pub is-sound : sound (length st.journal) st.handle ≡ true

-- the number of the first of 1 to 4 that applies, and what 0 means: for undo and redo; and with 25 for push
pub record Moves (st : State Document) (n : ℕ) : Type 0 where
  pub value : n ≡ first_of (move_checks editing st)
  pub fine : n ≡ 0 → Standing st

-- none of these looks at a record, so that no form need be told
pub record Enters (c : Curve) (st : State Document) (g : Given) (n : ℕ) : Type 0 where
  pub value : n ≡ first_of (entry_checks (editing_by Coordinates c) st g)
  pub fine : n ≡ 0 → Standing st
  pub curve-fits : n ≡ 0 → CurveFits c

-- ---- a push that no check refuses
pub record Acceptable (f : Form) (st : State Document) (e : Edit) (cs : List Change) : Type 0 where
  pub permitted : Permitted
  pub passes : first_of (own_checks false st.sheet.sheet st.sheet.locks permitted e cs) ≡ 0
  pub short : length cs ≤ max_changes
  pub room : st.handle.offset + record_length f e (length cs) ≤ length st.journal

-- ---- what looks at no sheet: 1 and 4, of a journal of n bytes
abbrev pub handle_checks : ℕ → Handle → List Check
handle_checks n h = long_journal n ∷ unsound n h ∷ []

-- ---- `mark_saved`: what it answers and leaves; `mark_of` (history_ledger/specs/Journal.antt) says what these are
abbrev pub outcome_of : Answer → Handle → Outcome Handle
outcome_of answer handle = record { answer = answer_told answer; leaves = handle }
