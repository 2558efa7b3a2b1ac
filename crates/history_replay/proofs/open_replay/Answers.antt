-- `open_replay`: 1 of the permitted colours, 1 to 3, 25, 21, 16, then the edit's checks before its list. Assumes nothing.
use mathlib.Core.Path.{◌≡◌, refl, sym, ◌∙◌}
use mathlib.Core.Bool.{true}
use native.Mathlib.Omega.{arith}
use Rattle.base.specs.Checks.{first_of}
use Rattle.color_curve.specs.Curve.{curve_of, CurveFits}
use Rattle.sheet.specs.Sheet.{sheet_of}
use Rattle.sheet.specs.Checks.{permitted_checks, Marked}
use mathlib.Core.List.{List}
use lib.ListN.{length}
use Rattle.edit.specs.Change.{Change}
use Rattle.edit.specs.Checks.{permitted_of, own_checks}
use Rattle.history_model.specs.Document.{document_of}
use Rattle.history_model.specs.Replay.{replay_checks}
use Rattle.history_model.proofs.ReplayChecks.{given-refused, sheet-refused, curve-refused, too_long, no-space, own-decides}
use Rattle.edit_list.proofs.Deciding.{head-decides}
use Rattle.history_replay.proofs.Replaying.{opened-refused}
use borrow.Author.Rules.{rules}
use Rattle.history_replay.proofs.open_replay.Goals as goal
use Rattle.history_replay.proofs.open_replay.Goals.{Else-given-ne0, Else-marks-size, Else-no-ne0, Else-unfit-ne0}

-- past the first test the permitted colours are, past the second the sheet is well-formed and has its marks, past the third the curve fits
given : (c : Else-given-ne0) → let a = c.args in first_of (permitted_checks a.limited a.permitted.now) ≡ 0
given c = sym c.permitted_no-given.ensures ∙ c.if-given-ne0.false

marked : (c : Else-no-ne0) → let a = c.args in Marked (sheet_of a.w a.h a.k a.palette.now a.lab.now a.indices.now) a.locks.now
marked c = c.check_marked-no.ensures.fine c.if-no-ne0.false

fits : (c : Else-unfit-ne0) → let a = c.args in CurveFits (curve_of a.loaded a.curve.now)
fits c = sym c.curve_no-unfit.ensures ∙ c.if-unfit-ne0.false

-- past the fifth the edit's own checks decide
decided : (c : Else-marks-size) → let a = c.args in (cs : List Change) → length cs ≡ a.n → first_of (own_checks true (sheet_of a.w a.h a.k a.palette.now a.lab.now a.indices.now) a.locks.now (permitted_of a.limited a.permitted.now) a.edit cs) ≡ first_of (replay_checks (curve_of a.loaded a.curve.now) (length a.marks.now) (document_of a.w a.h a.k a.palette.now a.lab.now a.indices.now a.locks.now) (permitted_of a.limited a.permitted.now) a.edit cs)
decided c cs q =
    let f = marked (goal.at.Else-marks-size c).Else-no-ne0 in
    own-decides _ _ _ _ _ _ (given (goal.at.Else-marks-size c).Else-given-ne0) f (fits (goal.at.Else-marks-size c).Else-unfit-ne0) (rw q c.if-n-gt-MAX_CHANGES.false) (rw (← f.formed.limits.indices-length) c.if-marks-size.false)

pub returns-then-given-ne0 : goal.returns-then-given-ne0
returns-then-given-ne0 c cs q = opened-refused _ c.if-given-ne0.true (given-refused _ _ _ _ _ _ _ c.permitted_no-given.ensures c.if-given-ne0.true)

pub returns-then-no-ne0 : goal.returns-then-no-ne0
returns-then-no-ne0 c cs q = opened-refused _ c.if-no-ne0.true (sheet-refused _ _ _ _ _ _ (given (goal.at.returns-then-no-ne0 c).Else-given-ne0) _ c.check_marked-no.ensures c.if-no-ne0.true)

pub returns-then-unfit-ne0 : goal.returns-then-unfit-ne0
returns-then-unfit-ne0 c cs q = opened-refused _ c.if-unfit-ne0.true (curve-refused _ _ _ _ _ _ (given (goal.at.returns-then-unfit-ne0 c).Else-given-ne0) (marked (goal.at.returns-then-unfit-ne0 c).Else-no-ne0) _ c.curve_no-unfit.ensures c.if-unfit-ne0.true)

pub returns-then-n-gt-MAX_CHANGES : goal.returns-then-n-gt-MAX_CHANGES
returns-then-n-gt-MAX_CHANGES c cs q = opened-refused _ (λ z. omega (arith, z)) (too_long _ _ _ _ _ _ (given (goal.at.returns-then-n-gt-MAX_CHANGES c).Else-given-ne0) (marked (goal.at.returns-then-n-gt-MAX_CHANGES c).Else-no-ne0) (fits (goal.at.returns-then-n-gt-MAX_CHANGES c).Else-unfit-ne0) (rw q c.if-n-gt-MAX_CHANGES.true))

pub returns-then-marks-size : goal.returns-then-marks-size
returns-then-marks-size c cs q =
    let f = marked (goal.at.returns-then-marks-size c).Else-no-ne0 in
    opened-refused _ (λ z. omega (arith, z)) (no-space _ _ _ _ _ _ (given (goal.at.returns-then-marks-size c).Else-given-ne0) f (fits (goal.at.returns-then-marks-size c).Else-unfit-ne0) (rw q c.if-n-gt-MAX_CHANGES.false) (rw (← f.formed.limits.indices-length) c.if-marks-size.true))

pub head_no-head-requires : goal.head_no-head-requires
head_no-head-requires c = let m = marked (goal.at.head_no-head-requires c).Else-no-ne0 in (m.formed.limits.k-small, m.formed.limits.palette-length, m.marks)

pub returns-then-head-ne0 : goal.returns-then-head-ne0
returns-then-head-ne0 c cs q = opened-refused _ c.if-head-ne0.true (head-decides true _ _ _ _ cs _ (c.head_no-head.ensures _ _ c.args.lab.now _) c.if-head-ne0.true ∙ decided (goal.at.returns-then-head-ne0 c).Else-marks-size cs q)

pub returns : goal.returns
returns c cs q =
    let f = marked (goal.at.returns c).Else-no-ne0 in
    record {
      refuses = λ h. absurd (h refl);
      ready = λ _.
          record {
            marked = f;
            enough = rw (← f.formed.limits.indices-length) c.if-marks-size.false;
            head = sym (c.head_no-head.ensures _ _ c.args.lab.now _) ∙ c.if-head-ne0.false;
            decides = decided (goal.at.returns c).Else-marks-size cs q;
            clear = rw (c.list_of.ensures, f.formed.limits.indices-length) at c.clear_marks.ensures;
          };
    }
