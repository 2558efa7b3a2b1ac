-- DEMAND 3, LAYER BY LAYER, for the calls of this repository: "Every layer keeps a ledger of its own" (document 02,
-- E1). Proved: `demand-3-of-layers` in proofs/Layers.antt. Definitions only. Assumes nothing. What is compared is what
-- Demand3.antt compares, and the calls are the same. `layered` (history_ledger/specs/Layers.antt) makes each call on
-- the state of its layer and leaves the others; `calls_on` and `part_of` are one layer's calls, and its part of the run.
use Rattle.std.specs.Prelude.{◌≡◌, List, map, ℕ, ◌*◌, ◌≤◌, length}
use Rattle.base.specs.Limits.{max_journal}
use Rattle.base.specs.Checks.{first_of}
use Rattle.base.specs.declared.Form.{Form}
use Rattle.base.specs.Lists.{All}
use Rattle.color_curve.specs.Curve.{Curve, CurveFits}
use Rattle.history_ledger.specs.Calls.{Call, Lent, play, lend}
use Rattle.history_ledger.specs.Journal.{State, opened, stepLent}
use Rattle.history_ledger.specs.Ledger.{begun, enter}
use Rattle.history_ledger.specs.Demand.{unstruck, SameHistory}
use Rattle.history_ledger.specs.Layers.{OnLayer, calls_on, layered, part_of, calls_in}
use Rattle.history_model.specs.Document.{Document, shown, document_checks}
use Rattle.history_model.specs.Editing.{Given, editing_by}
use Rattle.history_model.specs.Handed.{HandedSheet, HandedPush, sheet_by, call_by}

-- a call as it is handed in, on a layer and with scratch of its own
abbrev pub HandedCall : Type 0
HandedCall = OnLayer (Lent (Call HandedPush))

abbrev pub call_on : HandedCall → OnLayer (Lent (Call Given))
call_on c = record { layer = c.layer; call = record { call = call_by c.call.call; room = c.call.room } }

-- For any layers, each with a journal of its own of any contents, every list of calls, each on some layer, and every
-- layer i whose opening sheet is well-formed, whose journal is permitted and whose calls have scratch for every pixel:
-- what its calls answered and left, with all the calls on the others in between, is what the ledger says that is fed
-- its opening sheet and its calls, the struck ones left out; and what a run of that layer alone gives, in any permitted
-- journal that is not shorter. Nothing is asked of the other layers, nor of the calls on them. All layers of a symbol
-- have one curve.
abbrev pub Demand3OfLayers : Type 0
Demand3OfLayers =
    (f : Form) (c : Curve) → CurveFits c → (lent : ℕ → HandedSheet) (i : ℕ)
    → let s = sheet_by (lent i) in
    first_of (document_checks s) ≡ 0
    → (journals : ℕ → List ℕ) (longer : List ℕ) → length (journals i) ≤ length longer → length longer ≤ max_journal
    → (handed : List HandedCall)
    → let calls = map call_on handed in
    let own = calls_on i calls in
    All (λ call. s.sheet.w * s.sheet.h ≤ call.room) own
    → (scratch' : ℕ → ℕ) → ((n : ℕ) → s.sheet.w * s.sheet.h ≤ scratch' n)
    → let opening : ℕ → State Document = λ j. opened (editing_by f c) (sheet_by (lent j)) (journals j) in
    let first = part_of i calls (play (layered (stepLent (editing_by f c))) opening calls) in
    let left = unstruck (calls_in own) first.answers in
    let second = play (stepLent (editing_by f c)) (opened (editing_by f c) s longer) (lend scratch' left) in
    let ledger = play (enter (editing_by f c)) (begun (editing_by f c) (shown s)) left in
    SameHistory (editing_by f c) (unstruck first.answers first.answers) first second ledger
