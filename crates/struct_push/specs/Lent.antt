-- What a call with palette count and handle lent leaves. Definitions only. Assumes nothing.
use Rattle.std.specs.Prelude.{Bool, List, ℕ, ℤ, Float}
use Rattle.base.specs.Answer.{answer_told}
use Rattle.base.specs.declared.Answer.{Answer}
use Rattle.base.specs.declared.Handle.{Handle}
use Rattle.history_ledger.specs.Calls.{Outcome}
use Rattle.history_ledger.specs.Journal.{State}
use Rattle.history_model.specs.Document.{Document, document_of}
use Rattle.history_model.specs.Calls.{state_of}

-- the answer, and sheet and marks, journal and handle after the call
abbrev pub leaves_lent : Answer → ℕ → ℕ → ℕ → List ℕ → List Float → List ℤ → List Bool → List ℕ → Handle → Outcome (State Document)
leaves_lent answer w h k palette lab indices locks journal handle =
    record { answer = answer_told answer; leaves = state_of (document_of w h k palette lab indices locks) journal handle }
