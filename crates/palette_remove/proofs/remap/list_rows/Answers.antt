-- `list_rows`: y rows are listed, n changes. Assumes nothing.
use mathlib.Core.Path.{refl}
use Prim.Native.Nat.{◌+◌, ◌*◌, ◌≤◌}
use native.Mathlib.Omega.{arith}
use lib.ListN.{length}
use Rattle.edit.specs.Change.{packed}
use Rattle.palette_model.proofs.Rows.{as-entry, row_inside, rows_none, rows-room, rows-lent, rows-wide, rows_next, rows_all}
use Rattle.palette_remove.proofs.remap.list_rows.Goals as goal
use Rattle.palette_remove.proofs.remap.list_rows.Goals.{In-loop-y}

-- the row is inside the sheet
here : (c : In-loop-y) → let a = c.args in c.loop-y.y * a.w + a.w ≤ length a.indices.now
here c = omega (arith, row_inside c.args.w _ _ c.loop-y-test.true)

pub loop-y-init : goal.loop-y-init
loop-y-init c = rows_none _ _ _ _ _

pub list_row-n-requires : goal.list_row-n-requires
unfolding packed
list_row-n-requires c =
    let p = c.loop-y.invariant in
    let start = c.requires in
    let from = as-entry start.3 c.as_index-from.ensures in
    rw from (omega (arith, rw (from, as-entry start.4 c.as_index-to.ensures) at c.change_of-first.ensures, rows-wide p (here (goal.at.list_row-n-requires c).In-loop-y), start), rows-lent p (here (goal.at.list_row-n-requires c).In-loop-y) start.5)

pub overflow_add-n : goal.overflow_add-n
overflow_add-n c =
    let start = c.requires in
    omega (arith, rows-room c.loop-y.invariant (here (goal.at.overflow_add-n c).In-loop-y) start.5, rw (as-entry start.3 c.as_index-from.ensures) at c.list_row-n.ensures.0)

pub loop-y-preserved : goal.loop-y-preserved
loop-y-preserved c =
    let start = c.requires in
    let from = as-entry start.3 c.as_index-from.ensures in
    let first = rw (from, as-entry start.4 c.as_index-to.ensures) at c.change_of-first.ensures in
    rows_next c.loop-y.invariant _ _ _ _ (here (goal.at.loop-y-preserved c).In-loop-y) start.5 first (rw from at c.list_row-n.ensures.0) (rw from at c.list_row-n.ensures.1) refl

pub returns : goal.returns
returns c = rows_all c.loop-y.invariant _ c.loop-y.auto.y-end c.loop-y-test.false c.requires.2
