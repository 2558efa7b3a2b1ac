-- A step over the record that a search of the journal found, back or forth: it is refused, or made. Assumes nothing.
use mathlib.Core.Path.{◌≡◌, ap, ◌∙◌}
use mathlib.Core.Bool.{Bool, true, false}
use mathlib.Core.List.{List}
use mathlib.Core.Option.{Option, none, some}
use Prim.Native.Nat.{ℕ}
use lib.ListN.{length}
use Rattle.base.specs.declared.Edit.{Edit}
use Rattle.base.specs.declared.Form.{Form}
use Rattle.base.specs.declared.Handle.{Handle}
use Rattle.edit.specs.Change.{Change}
use Rattle.journal_record.specs.declared.Found.{Found}
use Rattle.journal_record.specs.declared.Found.TheVariants.{Record, Unsound}
use Rattle.journal_record.specs.Record.{Reading}
use Rattle.journal_read.specs.Lies.{edit_at, changes_at, Lies}
use Rattle.journal_read.proofs.Searched.{Searched}
use Rattle.history_ledger.specs.Handle.{sound}
use Rattle.history_ledger.specs.Algebra.{Taken}
use Rattle.history_ledger.specs.Calls.{Outcome, refused, done}
use Rattle.history_ledger.specs.Journal.{State, stepOver}
use Rattle.history_model.specs.Document.{Document}
use Rattle.history_model.specs.Editing.{taken, editing}
use Rattle.history_model.specs.Calls.{state_of}
use Rattle.history_model.proofs.Steps.{over_none, over-not, over-unsound, over_done}

-- a direction: what its search of the journal reads and answers, which records it takes, what it makes of the sheet and of the handle
pub record Direction (form : Form) (st : State Document) : Type 0 where
  pub reading : Reading
  pub found : Found
  pub inside : ℕ → Bool
  pub stepped : ℕ → Handle → Handle
  pub takes : Edit → List Change → Bool
  pub makes : Edit → List Change → Document
  pub by : Reading → Option (Taken Document)
  pub by-none : by none ≡ none
  pub by-some : (r : ℕ × Edit × List Change) → by (some r) ≡ taken (takes r.1 r.2) r.0 (makes r.1 r.2)
  pub nothing : found ≡ Unsound → reading ≡ none
  pub searched : (kind start n count : ℕ) → found ≡ Record kind start n count → Searched form st.sheet.sheet.w st.journal reading kind start n count × (inside n ≡ true)

module _ {form : Form} {st : State Document} (d : Direction form st) where
  abbrev step : Outcome (State Document)
  step = stepOver editing st (d.by d.reading) d.inside d.stepped

  pub step-none : d.found ≡ Unsound → refused st 4 ≡ step
  step-none e = over_none st d.inside d.stepped _ (ap d.by (d.nothing e) ∙ d.by-none)

  module _ {kind start n count : ℕ} (found : d.found ≡ Record kind start n count) where
    abbrev edit : Edit
    edit = edit_at st.journal kind start

    abbrev changes : List Change
    changes = changes_at form st.sheet.sheet.w st.journal kind start count

    pub step-lies : Lies form st.journal kind start count
    step-lies = (d.searched kind start n count found).0.lies

    read : d.by d.reading ≡ taken (d.takes edit changes) n (d.makes edit changes)
    read = ap d.by (d.searched kind start n count found).0.reads ∙ d.by-some (n, edit, changes)

    pub step-unsound : (next : Handle) → next ≡ d.stepped n st.handle → sound (length st.journal) next ≡ false → refused st 4 ≡ step
    step-unsound = over-unsound st d.inside d.stepped n (d.takes edit changes) _ _ read

    pub step-not : d.takes edit changes ≡ false → refused st 4 ≡ step
    step-not = over-not st d.inside d.stepped n (d.takes edit changes) _ _ read

    pub step-done : (next : Handle) → next ≡ d.stepped n st.handle → sound (length st.journal) next ≡ true → d.takes edit changes ≡ true
        → {t : Document} → t ≡ d.makes edit changes → done (state_of t st.journal next) ≡ step
    step-done next q e ok p =
        over_done st d.inside d.stepped n (d.takes edit changes) _ _ read next q e ok (d.searched kind start n count found).1 p
