-- What a push does when its list stands in the record and is painted. Definitions only. Assumes nothing.
use Rattle.std.specs.Prelude.{Bool, List, [], ◌++◌, ℕ, ◌+◌, ◌≤◌, Float, length, take, drop}
use Rattle.base.specs.Limits.{max_changes, max_journal}
use Rattle.base.specs.declared.Lab.{Lab}
use Rattle.base.specs.declared.Rgb.{Rgb}
use Rattle.sheet.specs.Sheet.{sheet_of}
use Rattle.base.specs.declared.Edit.{Edit}
use Rattle.base.specs.declared.Form.{Form}
use Rattle.edit.specs.Apply.{filled_edit}
use Rattle.edit_locks.specs.Movable.{MarkIn, Redoable}
use Rattle.edit_apply.specs.Redoable.{EntryIn, Finishable}
use Rattle.journal_record.specs.Record.{record_length}
use Rattle.journal_frame.specs.Frame.{around, Framed}
use Rattle.base.specs.declared.Handle.{Handle}
use Rattle.history_ledger.specs.Handle.{after_push}
use Rattle.history_ledger.specs.Journal.{State}
use Rattle.history_model.specs.Document.{Document, document_rest}

-- the record around n changes that stand in it, the rest of the edit done, with `curve` for the LAB of a colour, the marks and the handle moved
unfoldable pub finished : Form → (Rgb → Lab) → State Document → Edit → ℕ → State Document
finished f curve st e n =
    let d = st.sheet in
    record {
      sheet = document_rest curve d e;
      journal = take st.handle.offset st.journal ++ around f (filled_edit d.sheet d.locks e) n (drop st.handle.offset st.journal);
      handle = after_push (record_length f e n) st.handle;
    }

-- what that asks: the entry lies in storage and has LAB that is numbers, its mark is one of those lent, and the record fits the journal
pub record Finishes (f : Form) (k : ℕ) (palette : List ℕ) (lab : List Float) (locks : List Bool) (journal : List ℕ) (handle : Handle) (e : Edit) (n : ℕ) : Type 0 where
  pub storage : Finishable k (length palette) (length lab) e
  pub entry-bytes : EntryIn (length palette) e
  pub entry-numbers : EntryIn (length lab) e
  pub entry-mark : MarkIn (length locks) e
  pub marks : Redoable k (length locks) e
  pub framed : Framed (filled_edit (sheet_of 0 0 k palette lab []) locks e)
  pub short : n ≤ max_changes
  pub room : handle.offset + record_length f e n ≤ length journal
  pub permitted : length journal ≤ max_journal
  pub before : handle.position ≤ handle.offset
