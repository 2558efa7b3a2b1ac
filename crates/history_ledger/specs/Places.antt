-- Where document 02's 25 and 28 stand among the checks: of a push, of a redo and in the ledger, whatever the curve and
-- whatever the push. Proved of every algebra: `in_place` in proofs/Places.antt. Definitions only. Assumes nothing.
use Rattle.std.specs.Prelude.{◌≡◌, List, [], ◌∷◌, ℕ, suc, length}
use Rattle.base.specs.Checks.{Check, first_of}
use Rattle.history_ledger.specs.Calls.{refused, still, group}
use Rattle.history_ledger.specs.Calls.Call.{push}
use Rattle.history_ledger.specs.Algebra.{Algebra}
use Rattle.history_ledger.specs.Journal.{State, long_journal, unsound, move_checks, pushOf, undoOf, redoOf}
use Rattle.history_ledger.specs.Ledger.{Ledger, standing, enter}

module _ (A : Algebra) where
  open A use {Sheet, Edit, first_check, curve_check, sheet_check, picture_check, given_check}

  -- 1 to 4 of a push, and 1 to 3 in the ledger
  abbrev pub firstFour : State Sheet → Edit → List Check
  firstFour st e =
      long_journal (length st.journal) ∷ group (given_check e) ∷ group (sheet_check st.sheet) ∷ unsound (length st.journal) st.handle ∷ []

  abbrev pub firstThree : Ledger A → Edit → List Check
  firstThree l e = group (given_check e) ∷ group (picture_check (standing A l)) ∷ []

  pub record InPlace : Type 0 where
    -- E12: 28 "before all others"
    pub first-of-all : (room : ℕ) (st : State Sheet) (e : Edit) (n : ℕ) → first_check e ≡ suc n → pushOf A room st e ≡ refused st (suc n)
    pub first-of-all-in-the-ledger : (l : Ledger A) (e : Edit) (n : ℕ) → first_check e ≡ suc n → enter A l (push e) ≡ refused l (suc n)
    -- E6: 25 "after 1 to 4": where one of these applies, its number is told
    pub push-first-four : (room : ℕ) (st : State Sheet) (e : Edit) (n : ℕ) → first_check e ≡ 0 → first_of (firstFour st e) ≡ suc n
        → pushOf A room st e ≡ refused st (suc n)
    pub redo-first-four : (room : ℕ) (st : State Sheet) (n : ℕ) → first_of (move_checks A st) ≡ suc n → redoOf A room st ≡ refused st (suc n)
    pub first-three-in-the-ledger : (l : Ledger A) (e : Edit) (n : ℕ) → first_check e ≡ 0 → first_of (firstThree l e) ≡ suc n
        → enter A l (push e) ≡ refused l (suc n)
    -- and where none of them does, 25 is told before all else, "still" too
    pub push-curve : (room : ℕ) (st : State Sheet) (e : Edit) (n : ℕ) → first_check e ≡ 0 → first_of (firstFour st e) ≡ 0 → curve_check ≡ suc n
        → pushOf A room st e ≡ refused st (suc n)
    pub redo-curve : (room : ℕ) (st : State Sheet) (n : ℕ) → first_of (move_checks A st) ≡ 0 → curve_check ≡ suc n
        → redoOf A room st ≡ refused st (suc n)
    pub curve-in-the-ledger : (l : Ledger A) (e : Edit) (n : ℕ) → first_check e ≡ 0 → first_of (firstThree l e) ≡ 0 → curve_check ≡ suc n
        → enter A l (push e) ≡ refused l (suc n)
    -- undo takes no curve
    pub undo-still : (st : State Sheet) → first_of (move_checks A st) ≡ 0 → st.handle.position ≡ 0 → undoOf A st ≡ still st
