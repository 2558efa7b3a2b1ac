-- `snap_rgba`: 1 to 3, 25, 17, 19, 16, then the part that fits. Assumes nothing.
use mathlib.Core.Path.{◌≡◌, sym, ◌∙◌}
use Prim.Native.Nat.{◌≤◌}
use native.Mathlib.Nat.{mul_comm, mul-le-mul, mul-le-mul_right}
use native.Mathlib.Omega.{arith}
use borrow.Author.Rules.{rules}
use Rattle.base.specs.Checks.{first_of}
use Rattle.color_curve.specs.Curve.{curve_of, curve_checks}
use Rattle.sheet.specs.Sheet.{sheet_of}
use Rattle.sheet.specs.Checks.{WellFormed}
use Rattle.tool_snap.proofs.Answers.{snap-sheet, snap-unfit, snap-wide, snap-high, snap-few, snap-short, snap-done}
use Rattle.tool_snap.proofs.snap.snap_rgba.Goals as goal
use Rattle.tool_snap.proofs.snap.snap_rgba.Goals.{After-min-ch, Else-no-ne0, Else-unfit-ne0}

-- past the first test the sheet is well-formed
past : (c : Else-no-ne0) → let a = c.args in WellFormed (sheet_of a.w a.h a.k a.palette.now a.lab.now a.indices.now)
past c = c.check-no.ensures.fine c.if-no-ne0.false

-- past the second the curve fits
fits : (c : Else-unfit-ne0) → let a = c.args in first_of (curve_checks (curve_of a.loaded a.curve.now)) ≡ 0
fits c = sym c.curve_no-unfit.ensures ∙ c.if-unfit-ne0.false

formed : (c : Else-unfit-ne0) → let a = c.args in WellFormed (sheet_of a.w a.h a.k a.palette.now a.lab.now a.indices.now)
formed c = past (goal.at.Else-unfit-ne0 c).Else-no-ne0

-- the part that fits
inside : (c : After-min-ch) → let a = c.args in
    (c.min-cw.result ≤ a.image_w) × (c.min-cw.result ≤ 1024) × (c.min-ch.result ≤ a.image_h) × (c.min-ch.result ≤ 1024)
inside c = (omega (arith, c.min-cw.ensures), omega (arith, c.min-cw.ensures, c.if-image_w-gt-MAX_SIDE.false), omega (arith, c.min-ch.ensures), omega (arith, c.min-ch.ensures, c.if-image_h-gt-MAX_SIDE.false))

pub returns-then-no-ne0 : goal.returns-then-no-ne0
returns-then-no-ne0 c = snap-sheet _ _ _ _ _ _ _ c.check-no.ensures c.if-no-ne0.true

pub returns-then-unfit-ne0 : goal.returns-then-unfit-ne0
returns-then-unfit-ne0 c = snap-unfit _ _ _ _ _ _ (past (goal.at.returns-then-unfit-ne0 c).Else-no-ne0) _ c.curve_no-unfit.ensures c.if-unfit-ne0.true

pub returns-then-image_w-gt-MAX_SIDE : goal.returns-then-image_w-gt-MAX_SIDE
returns-then-image_w-gt-MAX_SIDE c = snap-wide _ _ _ _ _ _ (formed (goal.at.returns-then-image_w-gt-MAX_SIDE c).Else-unfit-ne0) (fits (goal.at.returns-then-image_w-gt-MAX_SIDE c).Else-unfit-ne0) c.if-image_w-gt-MAX_SIDE.true

pub returns-then-image_h-gt-MAX_SIDE : goal.returns-then-image_h-gt-MAX_SIDE
returns-then-image_h-gt-MAX_SIDE c = snap-high _ _ _ _ _ _ (formed (goal.at.returns-then-image_h-gt-MAX_SIDE c).Else-unfit-ne0) (fits (goal.at.returns-then-image_h-gt-MAX_SIDE c).Else-unfit-ne0) c.if-image_w-gt-MAX_SIDE.false c.if-image_h-gt-MAX_SIDE.true

pub overflow_mul-image_w : goal.overflow_mul-image_w
overflow_mul-image_w c = omega (arith, mul-le-mul c.if-image_w-gt-MAX_SIDE.false c.if-image_h-gt-MAX_SIDE.false)

pub overflow_mul-image_w-2 : goal.overflow_mul-image_w-2
overflow_mul-image_w-2 c = omega (arith, mul-le-mul c.if-image_w-gt-MAX_SIDE.false c.if-image_h-gt-MAX_SIDE.false)

pub returns-then-rgba-image_w : goal.returns-then-rgba-image_w
returns-then-rgba-image_w c = snap-few _ _ _ _ _ _ (formed (goal.at.returns-then-rgba-image_w c).Else-unfit-ne0) (fits (goal.at.returns-then-rgba-image_w c).Else-unfit-ne0) c.if-image_w-gt-MAX_SIDE.false c.if-image_h-gt-MAX_SIDE.false c.if-rgba-image_w.true

pub overflow_mul-cw : goal.overflow_mul-cw
overflow_mul-cw c = omega (arith, mul-le-mul (inside c).1 (inside c).3)

pub returns-then-out-cw : goal.returns-then-out-cw
returns-then-out-cw c =
    snap-short _ _ _ _ _ _ (formed (goal.at.returns-then-out-cw c).Else-unfit-ne0) (fits (goal.at.returns-then-out-cw c).Else-unfit-ne0) c.if-image_w-gt-MAX_SIDE.false c.if-image_h-gt-MAX_SIDE.false c.if-rgba-image_w.false _ _ c.min-cw.ensures c.min-ch.ensures c.if-out-cw.true

pub returns : goal.returns
returns c =
    snap-done _ _ _ _ _ _ (formed (goal.at.returns c).Else-unfit-ne0) (fits (goal.at.returns c).Else-unfit-ne0) c.if-image_w-gt-MAX_SIDE.false c.if-image_h-gt-MAX_SIDE.false c.if-rgba-image_w.false _ _ c.min-cw.ensures c.min-ch.ensures c.if-out-cw.false _ c.snap_rows.ensures
