-- `undo` over the record that was found before the standing offset. Assumes nothing.
use mathlib.Core.Path.{◌≡◌, refl, sym, ap, subst, ◌∙◌}
use mathlib.Core.Bool.{Bool, true, false}
use mathlib.Core.List.{List}
use mathlib.Core.Option.{none, some}
use Prim.Native.Nat.{ℕ, ◌-◌, ◌≤◌}
use native.Mathlib.Omega.{arith}
use borrow.Author.Tests.{le-leb}
use lib.Dec.{leb}
use lib.IntN.{ℤ}
use lib.ListN.{length, take}
use Rattle.sheet.specs.Sheet.{Sheet, sheet_of}
use Rattle.sheet.specs.Checks.{WellFormed}
use Rattle.base.specs.declared.Edit.{Edit}
use Rattle.base.specs.declared.Form.{Form}
use Rattle.base.specs.declared.Handle.{Handle}
use Rattle.edit.specs.Change.{Change}
use Rattle.edit.specs.Apply.{reverted}
use Rattle.edit.specs.Locks.{locks_back}
use Rattle.journal_record.specs.declared.Found.TheVariants.{Record}
use Rattle.journal_record.specs.Record.{read_back}
use Rattle.journal_record.specs.Found.{found_before}
use Rattle.journal_read.specs.Lies.{edit_at, changes_at}
use Rattle.journal_read.specs.Sound.{undoable}
use Rattle.journal_read.proofs.Searched.{Searched, SearchedBack, searched-back, unread-before}
use Rattle.history_ledger.specs.Handle.{sound, stepped_back}
use Rattle.history_ledger.specs.Calls.{Outcome, refused, done}
use Rattle.history_ledger.specs.Journal.{State, stepOver}
use Rattle.history_ledger.proofs.Soundness.{sound-facts}
use Rattle.history_model.specs.Document.{Document, document_of, document_back}
use Rattle.history_model.specs.Editing.{taken, undone_by, editing}
use Rattle.history_model.specs.Calls.{state_of, Standing}
use Rattle.history_model.proofs.Over.{Direction, step-not, step-done}

module _ (form : Form) {st : State Document} (stands : Standing st) where
  abbrev handle : Handle
  handle = st.handle

  -- the bytes before the standing offset
  abbrev used : List ℕ
  used = take handle.offset st.journal

  pub back_by : (r : ℕ × Edit × List Change) → undone_by st.sheet (some r) ≡ taken (undoable st.sheet.sheet st.sheet.locks r.1 r.2) r.0 (document_back st.sheet r.1 r.2)
  unfolding undone_by
  back_by r = refl

  pub back_none : undone_by st.sheet none ≡ none
  unfolding undone_by
  back_none = refl

  module _ (kind start n count : ℕ) (found : found_before handle.offset (read_back form st.sheet.sheet.w used) ≡ Record kind start n count) where
    searched : SearchedBack form st.sheet.sheet.w st.journal handle.offset kind start n count
    searched =
        let s = sound-facts (length st.journal) handle stands.is-sound in
        searched-back form st.sheet.sheet.w st.journal handle.offset kind start n count (omega (arith, s.ends, s.fits)) found

    pub back_inside : n ≤ handle.offset
    back_inside = searched.fits

    pub back_found : Searched form st.sheet.sheet.w st.journal (read_back form st.sheet.sheet.w used) kind start n count × (leb n handle.offset ≡ true)
    back_found = (searched.found, le-leb n handle.offset back_inside)

  abbrev pub back : Direction form st
  back =
      record {
        reading = read_back form st.sheet.sheet.w used;
        found = found_before handle.offset (read_back form st.sheet.sheet.w used);
        inside = λ m. leb m handle.offset;
        stepped = stepped_back;
        takes = undoable st.sheet.sheet st.sheet.locks;
        makes = document_back st.sheet;
        by = undone_by st.sheet;
        by-none = back_none;
        by-some = back_by;
        nothing = unread-before handle.offset (read_back form st.sheet.sheet.w used);
        searched = back_found;
      }

  abbrev stepped : Outcome (State Document)
  stepped = stepOver editing st (undone_by st.sheet (read_back form st.sheet.sheet.w used)) (λ m. leb m handle.offset) stepped_back

  -- ---- the indices as the test leaves them, which are those that it met
  module _ (l : List ℤ) (same : l ≡ st.sheet.sheet.indices) where
    abbrev s : Sheet
    s = st.sheet.sheet

    abbrev kept : Sheet
    kept = sheet_of s.w s.h s.k s.palette s.lab l

    kept-is : kept ≡ s
    kept-is i = sheet_of s.w s.h s.k s.palette s.lab (same i)

    abbrev lent : Document
    lent = document_of s.w s.h s.k s.palette s.lab l st.sheet.locks

    lent_is : lent ≡ st.sheet
    lent_is i = record { sheet = kept-is i; locks = st.sheet.locks }

    pub kept-fits : WellFormed kept
    kept-fits = subst WellFormed (sym kept-is) stands.fits

    module _ (kind start count : ℕ) where
      abbrev edit : Edit
      edit = edit_at st.journal kind start

      abbrev changes : List Change
      changes = changes_at form st.sheet.sheet.w st.journal kind start count

      abbrev takes : Sheet → Bool
      takes x = undoable x st.sheet.locks edit changes

      pub kept-undoable : takes s ≡ true → takes kept ≡ true
      kept-undoable ok = ap takes kept-is ∙ ok

      module _ (n : ℕ) (found : found_before handle.offset (read_back form st.sheet.sheet.w used) ≡ Record kind start n count) where
        pub back-not : takes s ≡ false → refused (state_of lent st.journal handle) 4 ≡ stepped
        back-not e = ap (λ (x : Document). refused (state_of x st.journal handle) 4) lent_is ∙ step-not back found e

        pub back_done : (next : Handle) → next ≡ stepped_back n handle → sound (length st.journal) next ≡ true → takes s ≡ true
            → {t : Sheet} → t ≡ reverted kept edit changes → {marks : List Bool} → marks ≡ locks_back s.k st.sheet.locks edit
            → done (state_of (record { sheet = t; locks = marks }) st.journal next) ≡ stepped
        back_done next q e ok {t} p {marks} m =
            step-done back found next q e ok (λ i. record { sheet = (p ∙ ap (λ (x : Sheet). reverted x edit changes) kept-is) i; locks = m i })
