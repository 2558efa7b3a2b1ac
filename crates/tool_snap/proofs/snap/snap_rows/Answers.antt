-- `snap_rows`: y rows so far, and the cache is sound. Assumes nothing.
use mathlib.Core.Path.{◌≡◌}
use Prim.Native.Nat.{◌+◌, ◌*◌, ◌≤◌, ◌-◌}
use native.Mathlib.Nat.{mul_comm}
use native.Mathlib.Omega.{arith}
use borrow.Author.Rules.{rules}
use lib.ListN.{length, length-take, length-drop}
use Rattle.selection_spans.proofs.Rows.{room}
use Rattle.selection.specs.Selection.{all, positions}
use Rattle.color_curve.specs.Curve.{curve_of, lab_by}
use Rattle.tool_snap.specs.Snap.{snap_at}
use Rattle.tool_snap.specs.Cache.{all_ok}
use Rattle.tool_snap.proofs.Rows.{Rows, rows_none, rows_next}
use Rattle.tool_snap.proofs.Slots.{all-empty}
use Rattle.tool_snap.proofs.snap.snap_rows.Goals as goal
use Rattle.tool_snap.proofs.snap.snap_rows.Goals.{In-loop-y}

-- the row is inside the image, and has room
here : (c : In-loop-y) → let a = c.args in 4 * (c.loop-y.y * a.image_w + a.w) ≤ length a.rgba.now
here c = let a = c.args in omega (arith, room a.image_w c.loop-y-test.true, mul_comm a.h a.image_w)

behind : (c : In-loop-y) → let a = c.args in c.loop-y.y * a.w + a.w ≤ length a.out.now
behind c = let a = c.args in omega (arith, room a.w c.loop-y-test.true)

pub loop-y-init : goal.loop-y-init
loop-y-init c = (search rules, rows_none _ _ _ _ _ _, all-empty _ _ _ 1024)

pub overflow_mul-to : goal.overflow_mul-to
overflow_mul-to c = omega (arith, here c, behind c, c.loop-y.invariant.1.long)

pub overflow_mul-y : goal.overflow_mul-y
overflow_mul-y c = omega (arith, here (goal.at.overflow_mul-y c).In-loop-y)

pub offset_bounds-out-to : goal.offset_bounds-out-to
offset_bounds-out-to c = omega (arith, behind (goal.at.offset_bounds-out-to c).In-loop-y, c.loop-y.invariant.1.long)

pub slice_bounds-snap_row-count : goal.slice_bounds-snap_row-count
slice_bounds-snap_row-count c = omega (arith, behind (goal.at.slice_bounds-snap_row-count c).In-loop-y, c.loop-y.invariant.1.long)

-- LEFT part-snap-row-start : tie.Need-slice-bounds-snap-row-start invariant-loop decreases-loop
-- LEFT part-snap-row-start c = omega (arith, behind c.before.before, c.before.before.before.loop.invariant.1.long)

pub loop-y-preserved : goal.loop-y-preserved
loop-y-preserved c =
    (search rules, rows_next _ _ _ _ _ c.loop-y.invariant.1 (behind (goal.at.loop-y-preserved c).In-loop-y) _ (omega arith) _ c.snap_row.ensures.0, c.snap_row.ensures.1)

pub shape_of-out : goal.shape_of-out
shape_of-out c = c.loop-y.invariant.1.long

pub returns : goal.returns
unfolding positions all
returns c = let every : c.loop-y.y ≡ c.args.h = omega arith in rw every at c.loop-y.invariant.1.written
