-- What `redo` answers up to the record, by what its tests find, and what the search and the step ask. Assumes nothing.
use mathlib.Core.Path.{◌≡◌, sym, ◌∙◌}
use mathlib.Core.List.{[], ◌∷◌}
use Prim.Native.Nat.{ℕ, ◌+◌, ◌-◌, ◌*◌, ◌≤◌, ◌<◌}
use native.Mathlib.Omega.{arith}
use borrow.Author.Tests.{lt-ltb, le-ltb, eq-eqb, ne_eqb}
use lib.Dec.{leb}
use lib.ListN.{length, take, drop}
use Rattle.base.specs.Checks.{first_of, refused_or}
use Rattle.base.proofs.First.{or-else-zero, first_past, first-here, refused-first, result-first}
use Rattle.base.specs.declared.Form.{Form}
use Rattle.color_curve.specs.Curve.{Curve, lab_by, curve_checks}
use Rattle.sheet.specs.Sheet.{view}
use Rattle.journal_record.specs.Record.{read_forth}
use Rattle.history_ledger.specs.Handle.{stepped_forth}
use Rattle.history_ledger.specs.Calls.{refused, still, group}
use Rattle.history_ledger.specs.Journal.{State, move_checks, redoChecks, stepOver, redoOf}
use Rattle.history_ledger.proofs.Soundness.{Sound, sound-facts}
use Rattle.history_model.specs.Document.{Document}
use Rattle.history_model.specs.Editing.{redone_by, editing_by, editing}
use Rattle.history_model.specs.Calls.{Standing, Moves}

module _ (f : Form) (c : Curve) (st : State Document) where
  abbrev curve-number : ℕ
  curve-number = first_of (curve_checks c)

  pub redo-refused : (room n : ℕ) → Moves st n → (n ≡ 0 → ⊥) → refused st n ≡ redoOf (editing_by f c) room st
  unfolding redoOf
  redo-refused room n m h = refused-first (redoChecks (editing_by f c) st) (refused st) _ n (first-here (move_checks editing st) (group curve-number ∷ []) n m.value h) h

  module _ (n : ℕ) (m : Moves st n) (z : n ≡ 0) where
    -- past 1 to 4 the curve decides
    entered : first_of (redoChecks (editing_by f c) st) ≡ curve-number
    entered = first_past (move_checks editing st) (group curve-number ∷ []) (sym m.value ∙ z) ∙ alone
      where
        alone : first_of (group curve-number ∷ []) ≡ curve-number
        alone = unfold first_of in or-else-zero curve-number

    pub redo-unfit : (room u : ℕ) → u ≡ curve-number → (u ≡ 0 → ⊥) → refused st u ≡ redoOf (editing_by f c) room st
    unfolding redoOf
    redo-unfit room u q h = refused-first (redoChecks (editing_by f c) st) (refused st) _ u (q ∙ sym entered) h

    module _ (u : ℕ) (q : u ≡ curve-number) (y : u ≡ 0) where
      none : first_of (redoChecks (editing_by f c) st) ≡ 0
      none = entered ∙ sym q ∙ y

      pub redo-still : (room : ℕ) → st.handle.position ≡ st.handle.count → still st ≡ redoOf (editing_by f c) room st
      unfolding redoOf
      redo-still room e = rw (eq-eqb st.handle.position st.handle.count e) (result-first (redoChecks (editing_by f c) st) (refused st) (still st) none)

      module _ (room : ℕ) (e : st.handle.position ≡ st.handle.count → ⊥) where
        pub redo-scratch : room < length st.sheet.sheet.indices → refused st 16 ≡ redoOf (editing_by f c) room st
        unfolding redoOf view first_of refused_or
        redo-scratch h =
            rw (ne_eqb st.handle.position st.handle.count e, none, lt-ltb room (st.sheet.sheet.w * st.sheet.sheet.h) (rw (m.fine z).fits.limits.indices-length at h))

        pub redo-over : length st.sheet.sheet.indices ≤ room
            → stepOver editing st (redone_by (lab_by c) st.sheet (read_forth f st.sheet.sheet.w (take (st.handle.end - st.handle.offset) (drop st.handle.offset st.journal)))) (λ i. leb (st.handle.offset + i) st.handle.end) stepped_forth
            ≡ redoOf (editing_by f c) room st
        unfolding redoOf view first_of refused_or stepOver
        redo-over h =
            rw (ne_eqb st.handle.position st.handle.count e, none, le-ltb room (st.sheet.sheet.w * st.sheet.sheet.h) (rw (m.fine z).fits.limits.indices-length at h))

module _ (st : State Document) where
  module _ (stands : Standing st) where
    facts : Sound (length st.journal) st.handle
    facts = sound-facts (length st.journal) st.handle stands.is-sound

    pub used-inside : (st.handle.offset ≤ st.handle.end) × (st.handle.end ≤ length st.journal)
    used-inside = (facts.ends, facts.fits)

    pub not_last : (st.handle.position ≡ st.handle.count → ⊥) → st.handle.position < st.handle.count
    not_last h = omega (arith, facts.stands)
