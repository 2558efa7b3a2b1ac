-- `any_left`: no pixel so far is left; the one that ends the scan is. Assumes nothing.
use mathlib.Core.Path.{◌≡◌, refl, sym, ◌∙◌}
use mathlib.Core.Bool.{false}
use Prim.Native.Nat.{ℕ, ◌≤◌, ◌<◌, ◌-◌, ◌+◌, ◌*◌}
use native.Mathlib.Omega.{arith}
use borrow.Author.Rules.{rules}
use Rattle.sheet.proofs.Places.{place}
use Rattle.edit_pixels.specs.Inside.{left_at}
use Rattle.edit_left.proofs.Left.{left-read, NoneLeft, none_yet, none-start, none-column, none_row, none_rows, left-hit, row_ends, parts_same, row-clear}
use Rattle.edit_left.proofs.any_left.Goals as goal
use Rattle.edit_left.proofs.any_left.Goals.{After-is_left, In-loop-x, In-rows, Joined-row_left, then-row_left+else-loop-x-test, else-row_left}

-- the row that a turn looks at ends on the sheet
ends : (c : In-rows) → let a = c.args in c.rows.y * a.w + a.w ≤ a.w * a.h
ends c = row_ends _ c.rows-test.true

-- the place that a turn of the inner loop looks at
abbrev at : In-loop-x → ℕ
at c = c.rows.y * c.args.w + c.loop-x.x

here : (c : In-loop-x) → at c < c.args.w * c.args.h
here c = place c.rows-test.true c.loop-x-test.true

-- what the test says of it
tested : (c : After-is_left) → let a = c.args in left_at a.index a.indices.now a.marks.now (c.rows.y * a.w + c.loop-x.x) ≡ c.is_left.result
tested c = let a = c.args in left-read a.index a.indices.now a.marks.now (c.rows.y * a.w + c.loop-x.x) refl refl c.is_left.ensures (search rules)

-- after a row, with one or without: none of it is left
cleared : (c : Joined-row_left) → let a = c.args in (c.if-row_left.left ≡ false) × NoneLeft a.index a.indices.now a.marks.now ((c.rows.y + 1) * a.w)
cleared c =
    let on = ends (goal.at.Joined-row_left c).In-rows in
    let a = c.args in
    let at = c.rows.y * a.w in
    elim c.if-row_left.branch [
      | then-row_left+else-loop-x-test w ↦ (w.left-is ∙ w.loop-x.invariant.0, none_row _ _ _ w.loop-x.invariant.1 w.loop-x.auto.x-end w.loop-x-test.false)
      | else-row_left w ↦ (w.left-is ∙ c.rows.invariant.0, row-clear _ _ _ c.rows.y a.w (at + a.w - at) (omega arith) (omega (arith, on)) c.rows.invariant.1 (sym c.row_left.ensures ∙ w.if-row_left.false))
    ]

pub rows-init : goal.rows-init
rows-init c = (search rules, none_yet _)

pub overflow_mul-at : goal.overflow_mul-at
overflow_mul-at c = omega (arith, ends c)

pub overflow_add-end : goal.overflow_add-end
overflow_add-end c = omega (arith, ends c)

pub offset_bounds-indices-at : goal.offset_bounds-indices-at
offset_bounds-indices-at c = omega (arith, ends c)

pub row_left-requires : goal.row_left-requires
row_left-requires c =
    let at = c.rows.y * c.args.w in
    (search rules, parts_same at (at + c.args.w - at) c.args.indices.now c.args.marks.now (c.requires.2 ∙ sym c.requires.1))

pub loop-x-init : goal.loop-x-init
loop-x-init c = (search rules, none-start _ _ c.rows.invariant.1)

pub overflow_add-p : goal.overflow_add-p
overflow_add-p c = omega (arith, here c)

pub offset_bounds-indices-p : goal.offset_bounds-indices-p
offset_bounds-indices-p c = omega (arith, here c)

pub bounds-indices-p : goal.bounds-indices-p
bounds-indices-p c = omega (arith, here c)

pub bounds-marks-p : goal.bounds-marks-p
bounds-marks-p c = omega (arith, here (goal.at.bounds-marks-p c).In-loop-x)

pub loop-x-preserved : goal.loop-x-preserved
loop-x-preserved c = (search rules, none-column _ _ c.loop-x.invariant.1 (tested (goal.at.loop-x-preserved c).After-is_left ∙ c.if-is_left.false))

pub rows-preserved : goal.rows-preserved
rows-preserved c = cleared c

pub returns-after-rows : goal.returns-after-rows
returns-after-rows c = λ cs m. c.rows.invariant.0 ∙ none_rows _ _ _ c.rows.invariant.1 c.rows.auto.y-end c.rows-test.false c.requires.1 c.requires.2 m

pub returns-then-is_left : goal.returns-then-is_left
returns-then-is_left c = λ cs m. left-hit _ _ _ m _ (omega (arith, here (goal.at.returns-then-is_left c).In-loop-x)) (omega (arith, here (goal.at.returns-then-is_left c).In-loop-x)) (tested (goal.at.returns-then-is_left c).After-is_left ∙ c.if-is_left.true)
