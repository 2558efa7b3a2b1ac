-- `count_rows`: so far n pixels of the first j rows`. Assumes nothing.
use mathlib.Core.Path.{◌≡◌}
use Prim.Native.Nat.{◌+◌, ◌*◌, ◌≤◌, ◌-◌}
use native.Mathlib.Omega.{arith}
use borrow.Author.Rules.{rules}
use lib.ListN.{length}
use mir.Syntax.{w16}
use mir.Val.{to_z, of_z}
use mir.Facts.{to_z-of_z}
use Rattle.selection.specs.Selection.{positions}
use Rattle.selection.proofs.Regions.{row_inside}
use Rattle.tool_fill_model.proofs.Rows.{Counted, counted_none, counted-more}
use Rattle.tool_replace.proofs.count_rows.Goals as goal
use Rattle.tool_replace.proofs.count_rows.Goals.{After-count_on-n, In-loop-j}

-- the row is inside the sheet
here : (c : In-loop-j) → let a = c.args in (a.s.y + c.loop-j.j) * a.w + a.s.x + a.s.w ≤ length a.indices.now
here c = let a = c.args in omega (arith, row_inside a.w a.s.y a.s.h c.loop-j.j c.loop-j-test.true)

-- one row more
next : (c : After-count_on-n) → let a = c.args in
    Counted a.w a.indices.now (to_z w16 (of_z w16 a.from)) a.s.x a.s.y a.s.w (c.loop-j.n + c.count_on-n.result) (c.loop-j.j + 1)
next c = counted-more _ _ _ _ _ _ _ _ _ c.loop-j.invariant.1 (here (goal.at.After-count_on-n c).In-loop-j) (omega arith) c.count_on-n.ensures

pub loop-j-init : goal.loop-j-init
loop-j-init c = (search rules, counted_none _ _ _ _ _ _)

pub overflow_mul-at : goal.overflow_mul-at
overflow_mul-at c = omega (arith, here c)

pub overflow_add-at-in-loop-j : goal.overflow_add-at-in-loop-j
overflow_add-at-in-loop-j c = omega (arith, here c)

pub overflow_add-end : goal.overflow_add-end
overflow_add-end c = omega (arith, here c)

pub offset_bounds-indices-at : goal.offset_bounds-indices-at
offset_bounds-indices-at c = omega (arith, here c)

pub slice_bounds-count_on-end : goal.slice_bounds-count_on-end
slice_bounds-count_on-end c = here c

pub overflow_add-n : goal.overflow_add-n
overflow_add-n c = omega (arith, (next c).few)

pub loop-j-preserved : goal.loop-j-preserved
loop-j-preserved c = (search rules, next c)

pub returns : goal.returns
unfolding positions
returns c =
    let all : c.loop-j.j ≡ c.args.s.h = omega arith in
    rw (all, to_z-of_z c.ranges.from) at c.loop-j.invariant.1.counted
