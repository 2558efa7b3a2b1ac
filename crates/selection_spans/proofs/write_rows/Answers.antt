-- `write_rows`: so far the front of the buffer is the first j rows. Assumes nothing.
use mathlib.Core.Path.{◌≡◌}
use mathlib.Core.List.{flat_map}
use Prim.Native.Nat.{◌≤◌, ◌+◌, ◌*◌}
use native.Mathlib.Omega.{arith}
use lib.ListN.{length, length-take, length-drop}
use Rattle.base.specs.Lists.{range}
use Rattle.base.proofs.Over.{over_none}
use Rattle.selection_spans.specs.Positions.{flat}
use Rattle.selection_spans.proofs.Rows.{rows_step, room}
use Rattle.selection_spans.proofs.write_rows.Goals as goal
use Rattle.selection_spans.proofs.write_rows.Goals.{In-loop-j}

here : (c : In-loop-j) → let w = c.before.before.args.w in 2 * (c.before.loop-j.j * w) + 2 * w ≤ length c.before.loop-j.out
here c = omega (arith, room c.before.before.args.w c.loop-j-test.true)

pub loop-j-init : goal.loop-j-init
unfolding flat range flat_map
loop-j-init c = over_none _

pub overflow_mul-at : goal.overflow_mul-at
overflow_mul-at c = omega (arith, here c)

pub overflow_mul-at-in-loop-j : goal.overflow_mul-at-in-loop-j
overflow_mul-at-in-loop-j c = omega (arith, here c)

pub offset_bounds-out-at : goal.offset_bounds-out-at
offset_bounds-out-at c = omega (arith, here c)

pub slice_bounds-write_row-count : goal.slice_bounds-write_row-count
slice_bounds-write_row-count c = omega (arith, here c)

pub write_row-requires : goal.write_row-requires
write_row-requires c = record { room = simp (length-take, length-drop) (omega (arith, here c.before)); right = omega arith; below = omega arith }

pub loop-j-preserved : goal.loop-j-preserved
loop-j-preserved c = rows_step _ _ _ _ _ _ _ c.loop-j.invariant c.write_row.ensures

pub returns : goal.returns
returns c = let all : c.loop-j.j ≡ c.args.h = omega arith in rw all at c.loop-j.invariant
