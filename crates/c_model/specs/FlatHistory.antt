-- DEMAND 3 THROUGH THE CRATE FOR C HOSTS: document 02, E12. "From demand 3's start a list of calls through this crate,
-- pushes answered "journal full" struck, must end where the ledger under this crate's limits, 28 among its refusals,
-- ends." Proved: `flat-history` and `flat-full` in proofs/FlatHistory.antt, `core-answers` and `flat-kept` in
-- proofs/Answers.antt. Definitions only. Assumes nothing. `flat_step` (Step.antt) is what the contracts of `c_panel` say
-- of each call; `enter flat_ledger` is document 01's ledger (history_ledger/specs/Ledger.antt) with the checks of
-- Asked.antt.
use Rattle.std.specs.Prelude.{◌≡◌, ◌↔◌, List, [], ◌∷◌, ℕ, ◌≤◌, ◌<◌, length, replicate, false}
use Rattle.base.specs.Limits.{max_journal}
use Rattle.base.specs.Numbers.{journal_full}
use Rattle.base.specs.Answer.Told.{alone}
use Rattle.base.specs.Lists.{All}
use Rattle.history_ledger.specs.Handle.{saved_position}
use Rattle.history_ledger.specs.Calls.{Call, Answer, Played, play}
use Rattle.history_ledger.specs.Calls.Call.{push, undo, redo, mark}
use Rattle.history_ledger.specs.Algebra.{Algebra}
use Rattle.history_ledger.specs.Ledger.{Ledger, begun, standing, enter}
use Rattle.history_ledger.specs.Demand.{unstruck, FullCall}
use Rattle.history_ledger.specs.Journal.{step}
use Rattle.history_model.specs.Document.{shown}
use Rattle.c_form.specs.Flat.{handle_in, sheet_misfits}
use Rattle.c_model.specs.Asked.{Asked, flat_editing}
use Rattle.c_model.specs.Step.{Flat, flat_of, sheet_in, flat_over, state_in, misfits, flat_room, flat_step}
use Rattle.history_ledger.specs.Coded.{Coding, coded}

-- a byte
abbrev pub IsByte : ℕ → Type 0
IsByte b = b < 256

-- a flat sheet, well-formed under this crate's limits: bytes that none of 28 and 1 to 3 refuses
pub record FlatSheet (b : List ℕ) : Type 0 where
  pub bytes : All IsByte b
  pub suits : sheet_misfits b ≡ false
  pub passes : flat_editing.sheet_check (sheet_in b) ≡ 0

-- the numbers of a colour are bytes, as the types of the calls have it
abbrev pub AskedTyped : Asked → Type 0
AskedTyped (Asked.pixels tool bytes) = Unit {0}
AskedTyped (Asked.set i c) = (c.r < 256) × (c.g < 256) × (c.b < 256)
AskedTyped (Asked.add c) = (c.r < 256) × (c.g < 256) × (c.b < 256)
AskedTyped (Asked.remove i bytes) = Unit {0}
AskedTyped (Asked.lock i m) = Unit {0}

abbrev pub CallTyped : Call Asked → Type 0
CallTyped (push a) = AskedTyped a
CallTyped undo = Unit {0}
CallTyped redo = Unit {0}
CallTyped mark = Unit {0}

-- the crate's sheets are buffers; what its ledger has is that of `flat_editing`
abbrev pub flat_coding : Coding flat_editing
flat_coding = record { Code = List ℕ; Fit = λ b. sheet_misfits b ≡ false; read = sheet_in; write = flat_over }

abbrev pub flat_ledger : Algebra
flat_ledger = coded flat_editing flat_coding

-- sheet, standing position and saved position are the ledger's
pub record Ends (s : Flat) (l : Ledger flat_ledger) : Type 0 where
  pub picture : shown (sheet_in s.sheet) ≡ standing flat_ledger l
  pub position : (handle_in s.handle).position ≡ l.position
  pub saved : saved_position (handle_in s.handle) ≡ l.saved

-- "Compared are these calls' answers, numbers included, in order, and afterwards" what `Ends` says: of both runs
pub record SameFlat (answers : List Answer) (first second : Played Flat) (ledger : Played (Ledger flat_ledger)) : Type 0 where
  pub second-answers : second.answers ≡ answers
  pub ledger-answers : ledger.answers ≡ answers
  pub first_ends : Ends first.ends ledger.ends
  pub second-ends : Ends second.ends ledger.ends

-- the handle's bytes at the start: five zeros
abbrev pub fresh_bytes : List ℕ
fresh_bytes = replicate 40 0

-- "From demand 3's start": for every flat sheet that none of 28 and 1 to 3 refuses; any two permitted journals, of any
-- contents, the second not shorter; a fresh handle; and every list of calls. "the second run and the ledger get only
-- the calls not struck".
abbrev pub FlatHistory : Type 0
FlatHistory =
    (sheet : List ℕ) → FlatSheet sheet
    → (shorter longer : List ℕ) → length shorter ≤ length longer → length longer ≤ max_journal
    → (calls : List (Call Asked)) → All CallTyped calls
    → let first = play flat_step (flat_of sheet shorter fresh_bytes) calls in
    let left = unstruck calls first.answers in
    let second = play flat_step (flat_of sheet longer fresh_bytes) left in
    let ledger = play (enter flat_ledger) (begun flat_ledger (shown (sheet_in sheet))) left in
    SameFlat (unstruck first.answers first.answers) first second ledger

-- which calls are struck: "journal full" is answered exactly where neither 28 nor another check comes first, empty
-- pixel lists apart: by every call, on every buffer
abbrev pub FlatFull : Type 0
FlatFull =
    (s : Flat) (c : Call Asked)
    → ((flat_step s c).answer ≡ alone journal_full) ↔ ((misfits s ≡ false) × FullCall flat_editing flat_room (state_in s) c)

-- "Each call gives the core's answer": past 28, under this crate's limits
abbrev pub CoreAnswers : Type 0
CoreAnswers =
    (s : Flat) (c : Call Asked) → misfits s ≡ false → (flat_step s c).answer ≡ (step flat_editing flat_room (state_in s) c).answer

-- "A refusal returns its number alone": every byte keeps, and where the answer is "still", too
abbrev pub FlatKept : Type 0
FlatKept = (s : Flat) (c : Call Asked) (n : ℕ) → (flat_step s c).answer ≡ alone n → (flat_step s c).leaves ≡ s
