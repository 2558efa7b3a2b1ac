-- `begin`: 1 to 4, 25, still, 21, 16, then the edit's checks before its list. Assumes nothing.
use mathlib.Core.Path.{◌≡◌, sym, ◌∙◌}
use mathlib.Core.Bool.{false}
use mathlib.Core.List.{List, [], map}
use Prim.Native.Nat.{ℕ}
use native.Mathlib.Omega.{arith}
use lib.ListN.{length, length-map}
use Rattle.base.specs.declared.Form.TheVariants.{Coordinates}
use Rattle.base.specs.Checks.{first_of}
use Rattle.color_curve.specs.Curve.{curve_of}
use Rattle.edit.specs.Change.{unpacked}
use Rattle.edit.specs.List.{list_of, empty_pixels}
use Rattle.edit_list.proofs.Deciding.{head-decides}
use Rattle.history_ledger.specs.Journal.{State, entry_checks}
use Rattle.history_model.specs.Document.{Document, document_of}
use Rattle.history_model.specs.Editing.{given_of, editing_by}
use Rattle.history_model.specs.Calls.{state_of, Standing}
use Rattle.history_push_checks.proofs.PushChecks.{pushes-long, pushes-scratch, pushes-own}
use Rattle.history_push_checks.proofs.PushSteps.{number-entry, number_push, begun-refused, begun-still, begun-ready}
use borrow.Author.Rules.{rules}
use Rattle.history_push_checks.proofs.begin.Goals as goal
use Rattle.history_push_checks.proofs.begin.Goals.{After-is_empty, Else-is_empty, Else-no-ne0}

abbrev state : Else-is_empty → State Document
state c = let a = c.args in state_of (document_of a.w a.h a.k a.palette.now a.lab.now a.indices.now a.locks.now) a.journal.now a.handle

-- past the first test nothing of 1 to 4 applies, past the second the push is not still
entered : (c : Else-no-ne0) → let a = c.args in (list : List ℕ) → first_of (entry_checks (editing_by Coordinates (curve_of a.loaded a.curve.now)) (state_of (document_of a.w a.h a.k a.palette.now a.lab.now a.indices.now a.locks.now) a.journal.now a.handle) (given_of a.limited a.permitted.now a.edit list)) ≡ 0
entered c list = sym (c.entry_no-no.ensures c.args.edit list).value ∙ c.if-no-ne0.false

standing : (c : Else-no-ne0) → let a = c.args in Standing (state_of (document_of a.w a.h a.k a.palette.now a.lab.now a.indices.now a.locks.now) a.journal.now a.handle)
standing c = (c.entry_no-no.ensures c.args.edit []).fine c.if-no-ne0.false

empty : (c : After-is_empty) → let a = c.args in (list : List ℕ) → length list ≡ a.n → c.is_empty.result ≡ empty_pixels (list_of a.edit) (length (map unpacked list))
empty c list q = c.is_empty.ensures ∙ rw (c.list_of-kind.ensures, length-map, q)

moving : (c : Else-is_empty) → let a = c.args in (list : List ℕ) → length list ≡ a.n → empty_pixels (list_of a.edit) (length (map unpacked list)) ≡ false
moving c list q = sym (empty (goal.at.Else-is_empty c).After-is_empty list q) ∙ c.if-is_empty.false

pub returns-then-no-ne0 : goal.returns-then-no-ne0
returns-then-no-ne0 c f list q = begun-refused f _ _ _ _ _ c.if-no-ne0.true (number-entry f _ _ _ _ _ (c.entry_no-no.ensures c.args.edit list).value c.if-no-ne0.true)

pub returns-then-is_empty : goal.returns-then-is_empty
returns-then-is_empty c f list q = begun-still f _ _ _ _ (entered (goal.at.returns-then-is_empty c).Else-no-ne0 list) (standing (goal.at.returns-then-is_empty c).Else-no-ne0) (sym (empty (goal.at.returns-then-is_empty c).After-is_empty list q) ∙ c.if-is_empty.true)

pub returns-then-n-gt-MAX_CHANGES : goal.returns-then-n-gt-MAX_CHANGES
returns-then-n-gt-MAX_CHANGES c f list q = begun-refused f _ _ _ _ _ (λ z. omega (arith, z)) (number_push f _ _ _ _ _ (entered (goal.at.returns-then-n-gt-MAX_CHANGES c).Else-no-ne0 list) (moving (goal.at.returns-then-n-gt-MAX_CHANGES c).Else-is_empty list q) (pushes-long f _ (state (goal.at.returns-then-n-gt-MAX_CHANGES c).Else-is_empty) _ (rw (length-map, q) c.if-n-gt-MAX_CHANGES.true)).value)

pub returns-then-marks-size : goal.returns-then-marks-size
returns-then-marks-size c f list q = begun-refused f _ _ _ _ _ (λ z. omega (arith, z)) (number_push f _ _ _ _ _ (entered (goal.at.returns-then-marks-size c).Else-no-ne0 list) (moving (goal.at.returns-then-marks-size c).Else-is_empty list q) (pushes-scratch f _ _ _ (rw (length-map, q) c.if-n-gt-MAX_CHANGES.false) (standing (goal.at.returns-then-marks-size c).Else-no-ne0) c.if-marks-size.true).value)

pub head_no-head-requires : goal.head_no-head-requires
head_no-head-requires c = let s = standing (goal.at.head_no-head-requires c).Else-no-ne0 in (s.fits.limits.k-small, s.fits.limits.palette-length, s.marks)

pub returns-then-head-ne0 : goal.returns-then-head-ne0
returns-then-head-ne0 c f list q =
    let own = head-decides false _ _ _ _ (map unpacked list) _ (c.head_no-head.ensures _ _ c.args.lab.now _) c.if-head-ne0.true in
    begun-refused f _ _ _ _ _ c.if-head-ne0.true
    (number_push f _ _ _ _ _ (entered (goal.at.returns-then-head-ne0 c).Else-no-ne0 list) (moving (goal.at.returns-then-head-ne0 c).Else-is_empty list q) (pushes-own f _ _ _ (rw (length-map, q) c.if-n-gt-MAX_CHANGES.false) (standing (goal.at.returns-then-head-ne0 c).Else-no-ne0) c.if-marks-size.false _ own c.if-head-ne0.true).value)

pub returns : goal.returns
returns c f list q =
    let stands = standing (goal.at.returns c).Else-no-ne0 in
    begun-ready f _ _ _ _ (entered (goal.at.returns c).Else-no-ne0 list) stands
    (record {
      short = rw (length-map, q) c.if-n-gt-MAX_CHANGES.false;
      enough = c.if-marks-size.false;
      head = sym (c.head_no-head.ensures _ _ c.args.lab.now _) ∙ c.if-head-ne0.false;
      clear = rw (c.list_of-kind.ensures, stands.fits.limits.indices-length) at c.clear_marks.ensures;
    })
