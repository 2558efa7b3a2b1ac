-- `redo` over the record that was found at the standing offset. Assumes nothing.
use mathlib.Core.Path.{◌≡◌, refl}
use mathlib.Core.List.{List}
use mathlib.Core.Bool.{Bool, true}
use mathlib.Core.Option.{none, some}
use Prim.Native.Nat.{ℕ, ◌+◌, ◌-◌, ◌≤◌}
use native.Mathlib.Omega.{arith}
use borrow.Author.Tests.{le-leb}
use lib.Dec.{leb}
use lib.ListN.{length, take, drop}
use Rattle.base.specs.declared.Lab.{Lab}
use Rattle.base.specs.declared.Rgb.{Rgb}
use Rattle.base.specs.declared.Edit.{Edit}
use Rattle.base.specs.declared.Form.{Form}
use Rattle.base.specs.declared.Handle.{Handle}
use Rattle.edit.specs.Change.{Change}
use Rattle.edit.specs.Apply.{redone}
use Rattle.edit.specs.Locks.{locks_done}
use Rattle.journal_record.specs.declared.Found.TheVariants.{Record}
use Rattle.journal_record.specs.Record.{read_forth}
use Rattle.journal_record.specs.Found.{found_at}
use Rattle.journal_read.specs.Sound.{redoable}
use Rattle.journal_read.proofs.Searched.{Searched, SearchedForth, searched-forth, unread-at}
use Rattle.sheet.specs.Sheet.{Sheet}
use Rattle.history_ledger.specs.Handle.{stepped_forth}
use Rattle.history_ledger.specs.Journal.{State}
use Rattle.history_ledger.proofs.Soundness.{sound-facts}
use Rattle.history_model.specs.Document.{Document, document_done}
use Rattle.history_model.specs.Editing.{taken, redone_by, editing}
use Rattle.history_model.specs.Calls.{Standing}
use Rattle.history_model.proofs.Over.{Direction}

module _ (form : Form) (curve : Rgb → Lab) {st : State Document} (stands : Standing st) where
  abbrev handle : Handle
  handle = st.handle

  -- the used bytes after the standing offset
  abbrev used : List ℕ
  used = take (handle.end - handle.offset) (drop handle.offset st.journal)

  pub forth-by : (r : ℕ × Edit × List Change) → redone_by curve st.sheet (some r) ≡ taken (redoable st.sheet.sheet st.sheet.locks r.1 r.2) r.0 (document_done curve st.sheet r.1 r.2)
  unfolding redone_by
  forth-by r = refl

  pub forth-none : redone_by curve st.sheet none ≡ none
  unfolding redone_by
  forth-none = refl

  pub forth-makes : (e : Edit) (cs : List Change) {t : Sheet} → t ≡ redone curve st.sheet.sheet e cs → {marks : List Bool} → marks ≡ locks_done st.sheet.sheet.k st.sheet.locks e
      → let made : Document = record { sheet = t; locks = marks } in made ≡ document_done curve st.sheet e cs
  forth-makes e cs p m i = record { sheet = p i; locks = m i }

  module _ (kind start n count : ℕ) (found : found_at handle.offset (read_forth form st.sheet.sheet.w used) ≡ Record kind start n count) where
    searched : SearchedForth form st.sheet.sheet.w st.journal handle.offset handle.end kind start n count
    searched =
        let s = sound-facts (length st.journal) handle stands.is-sound in
        searched-forth form st.sheet.sheet.w st.journal handle.offset handle.end kind start n count s.ends s.fits found

    pub forth-inside : handle.offset + n ≤ handle.end
    forth-inside = omega (arith, searched.starts, searched.ends)

    pub forth-found : Searched form st.sheet.sheet.w st.journal (read_forth form st.sheet.sheet.w used) kind start n count × (leb (handle.offset + n) handle.end ≡ true)
    forth-found = (searched.found, le-leb (handle.offset + n) handle.end forth-inside)

  abbrev pub forth : Direction form st
  forth =
      record {
        reading = read_forth form st.sheet.sheet.w used;
        found = found_at handle.offset (read_forth form st.sheet.sheet.w used);
        inside = λ m. leb (handle.offset + m) handle.end;
        stepped = stepped_forth;
        takes = redoable st.sheet.sheet st.sheet.locks;
        makes = document_done curve st.sheet;
        by = redone_by curve st.sheet;
        by-none = forth-none;
        by-some = forth-by;
        nothing = unread-at handle.offset (read_forth form st.sheet.sheet.w used);
        searched = forth-found;
      }
