-- DEMAND 3, the whole of it, for the calls of this repository. Proved: `demand-3` in proofs/Demand3.antt. Definitions
-- only. Assumes nothing. With A = `editing_by f c`, f the form of a history and c the curve of its session, `step A` at a
-- push, an undo, a redo and a mark is `pushOf A`, `undoOf A`, `redoOf A` and `mark_of` (history_ledger/specs/Journal.antt):
-- the contracts of `push`, `undo`, `redo` and `mark_saved` say that answer, handle, sheet and journal are exactly theirs.
-- `enter A` (history_ledger/specs/Ledger.antt) is document 01's ledger. Sheets and calls are as a caller hands them in, in
-- the types that the code has for them (Handed.antt). In document 01's form and not loaded, where c is sRGB's curve, which
-- passes, A is `editing`.
use Rattle.std.specs.Prelude.{◌≡◌, ◌↔◌, List, map, ℕ, ◌*◌, ◌≤◌, length}
use Rattle.base.specs.Limits.{max_journal}
use Rattle.base.specs.Numbers.{journal_full}
use Rattle.base.specs.Checks.{first_of}
use Rattle.base.specs.declared.Form.{Form}
use Rattle.base.specs.Answer.Told.{alone}
use Rattle.color_curve.specs.Curve.{Curve, srgb, CurveFits}
use Rattle.history_ledger.specs.Calls.{Call, play, lend}
use Rattle.history_ledger.specs.Journal.{State, opened, undoOf, step, stepLent}
use Rattle.history_ledger.specs.Ledger.{begun, enter}
use Rattle.history_ledger.specs.Demand.{unstruck, SameHistory, FullCall}
use Rattle.history_model.specs.Document.{Document, shown, document_checks}
use Rattle.history_model.specs.Editing.{Given, editing_by, editing}
use Rattle.history_model.specs.Handed.{HandedSheet, HandedPush, sheet_by, call_by}

pub record Demand3 : Type 0 where
  -- "Demand 3 is a statement about the whole list at once": for every well-formed sheet; any two permitted journals, of
  -- any contents, the second not shorter; scratch for every pixel, each call its own: call number i has `scratch i`
  -- places in the first run, and `scratch' i` in the second; and every list of calls. "Both runs and the ledger start
  -- from the same sheet; the second run and the ledger get only the calls not struck. Compared are these calls'
  -- answers, numbers included, in order, and afterwards sheet, standing position and saved position with the ledger's
  -- standing picture and positions." Document 02, E5: any marks at the start; "A ledger picture includes the marks, which
  -- are compared afterwards too, and lock calls join the lists of calls as pushes". E6: "In a loaded session every call
  -- of a list gets the loaded curve, which stays constant, and the ledger uses it throughout": for every curve that fits.
  -- E9: "both runs of demand 3 are in the same one": for either form.
  pub whole-history : (f : Form) (c : Curve) → CurveFits c → (lent : HandedSheet)
      → let s = sheet_by lent in
      first_of (document_checks s) ≡ 0
      → (shorter longer : List ℕ) → length shorter ≤ length longer → length longer ≤ max_journal
      → (scratch scratch' : ℕ → ℕ) → ((i : ℕ) → s.sheet.w * s.sheet.h ≤ scratch i) → ((i : ℕ) → s.sheet.w * s.sheet.h ≤ scratch' i)
      → (handed : List (Call HandedPush))
      → let calls = map call_by handed in
      let first = play (stepLent (editing_by f c)) (opened (editing_by f c) s shorter) (lend scratch calls) in
      let left = unstruck calls first.answers in
      let second = play (stepLent (editing_by f c)) (opened (editing_by f c) s longer) (lend scratch' left) in
      let ledger = play (enter (editing_by f c)) (begun (editing_by f c) (shown s)) left in
      SameHistory (editing_by f c) (unstruck first.answers first.answers) first second ledger
  -- a call answers "journal full" exactly where it is a push and 14 is the first check to apply, empty pixel lists apart: in every state, reached or not
  pub journal-full : (f : Form) (c : Curve) → CurveFits c → (scratch : ℕ) (st : State Document) (call : Call Given)
      → ((step (editing_by f c) scratch st call).answer ≡ alone journal_full) ↔ FullCall (editing_by f c) scratch st call
  -- undo takes no curve: what its contract says, with sRGB's, is so in every session
  pub undo-alike : (f : Form) (c : Curve) (st : State Document) → undoOf (editing_by f c) st ≡ undoOf (editing_by f srgb) st
