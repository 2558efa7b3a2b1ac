-- What `undo` answers up to the record, by what its tests find, and what the search and the step ask. Assumes nothing.
use mathlib.Core.Path.{◌≡◌, sym, ◌∙◌}
use Prim.Native.Nat.{ℕ, ◌≤◌, ◌<◌}
use native.Mathlib.Omega.{arith}
use borrow.Author.Tests.{eq-eqb, ne_eqb}
use lib.Dec.{leb}
use lib.ListN.{length, take}
use Rattle.base.proofs.First.{refused-first, result-first}
use Rattle.base.specs.declared.Form.{Form}
use Rattle.color_curve.specs.Curve.{srgb}
use Rattle.journal_record.specs.Record.{read_back}
use Rattle.history_ledger.specs.Handle.{stepped_back}
use Rattle.history_ledger.specs.Calls.{refused, still}
use Rattle.history_ledger.specs.Journal.{State, move_checks, stepOver, undoOf}
use Rattle.history_ledger.proofs.Soundness.{sound-facts}
use Rattle.history_model.specs.Document.{Document}
use Rattle.history_model.specs.Editing.{undone_by, editing, editing_by}
use Rattle.history_model.specs.Calls.{Standing, Moves}

module _ (f : Form) (st : State Document) where
  pub undo-refused : (n : ℕ) → Moves st n → (n ≡ 0 → ⊥) → refused st n ≡ undoOf (editing_by f srgb) st
  unfolding undoOf
  undo-refused n m h = refused-first (move_checks editing st) (refused st) _ n m.value h

  module _ (n : ℕ) (m : Moves st n) (z : n ≡ 0) where
    pub undo-still : st.handle.position ≡ 0 → still st ≡ undoOf (editing_by f srgb) st
    unfolding undoOf
    undo-still e = rw (eq-eqb st.handle.position 0 e) (result-first (move_checks editing st) (refused st) (still st) (sym m.value ∙ z))

    pub undo-over : (st.handle.position ≡ 0 → ⊥)
        → stepOver editing st (undone_by st.sheet (read_back f st.sheet.sheet.w (take st.handle.offset st.journal))) (λ i. leb i st.handle.offset) stepped_back ≡ undoOf (editing_by f srgb) st
    unfolding undoOf stepOver
    undo-over e = rw (ne_eqb st.handle.position 0 e) (result-first (move_checks editing st) (refused st) _ (sym m.value ∙ z))

module _ (st : State Document) where
  module _ (stands : Standing st) where
    pub offset-inside : st.handle.offset ≤ length st.journal
    offset-inside =
        let s = sound-facts (length st.journal) st.handle stands.is-sound in
        omega (arith, s.ends, s.fits)

    pub not_first : (st.handle.position ≡ 0 → ⊥) → 0 < st.handle.position
    not_first h = omega arith
