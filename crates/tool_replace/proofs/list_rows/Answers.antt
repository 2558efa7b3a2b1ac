-- `list_rows`: the changes of the first j rows are listed, n of them`. Assumes nothing.
use mathlib.Core.Path.{◌≡◌, refl}
use Prim.Native.Nat.{◌+◌, ◌*◌, ◌≤◌, ◌-◌}
use native.Mathlib.Omega.{arith}
use borrow.Author.Rules.{rules}
use lib.ListN.{length}
use mir.Syntax.{w16}
use mir.Val.{to_z, of_z}
use mir.Facts.{to_z-of_z}
use Rattle.selection.specs.Selection.{positions}
use Rattle.selection.proofs.Regions.{row_inside}
use Rattle.edit.specs.Change.{packed}
use Rattle.edit_pixels.specs.Listing.{places_from}
use Rattle.tool_fill_model.proofs.Rows.{lent, met, numbers, Listed, listed-none, listed-room, listed-lent, listed_more}
use Rattle.tool_replace.proofs.list_rows.Goals as goal
use Rattle.tool_replace.proofs.list_rows.Goals.{In-loop-j}

-- the row is inside the sheet
here : (c : In-loop-j) → let a = c.args in (a.s.y + c.loop-j.j) * a.w + a.s.x + a.s.w ≤ length a.indices.now
here c = let a = c.args in omega (arith, c.requires.0, row_inside a.w a.s.y a.s.h c.loop-j.j c.loop-j-test.true)

-- all of the changes have room
fits : (c : In-loop-j) → let a = c.args in length (met a.w a.indices.now (to_z w16 (of_z w16 a.from)) a.s.x a.s.y a.s.w a.s.h) ≤ length a.out.now
unfolding positions
fits c = rw (to_z-of_z c.ranges.from) c.requires.1

room : (c : In-loop-j) → let a = c.args in
    c.loop-j.n + length (places_from (to_z w16 (of_z w16 a.from)) 0 (lent a.w a.indices.now (to_z w16 (of_z w16 a.from)) ((a.s.y + c.loop-j.j) * a.w + a.s.x) a.s.w)) ≤ length a.out.now
room c = listed-room _ _ _ _ _ _ c.loop-j.invariant.1 _ c.loop-j-test.true (here c) (fits c)

pub loop-j-init : goal.loop-j-init
loop-j-init c = (search rules, listed-none _ _ _ _ _ _ _ _)

pub overflow_mul-at : goal.overflow_mul-at
overflow_mul-at c = omega (arith, here c)

pub overflow_add-at-in-loop-j : goal.overflow_add-at-in-loop-j
overflow_add-at-in-loop-j c = omega (arith, here c)

pub overflow_add-end : goal.overflow_add-end
overflow_add-end c = omega (arith, here c)

pub offset_bounds-indices-at : goal.offset_bounds-indices-at
offset_bounds-indices-at c = omega (arith, here (goal.at.offset_bounds-indices-at c).In-loop-j)

pub slice_bounds-list_row-end : goal.slice_bounds-list_row-end
slice_bounds-list_row-end c = here (goal.at.slice_bounds-list_row-end c).In-loop-j

pub offset_bounds-out-n : goal.offset_bounds-out-n
offset_bounds-out-n c = omega (arith, room (goal.at.offset_bounds-out-n c).In-loop-j)

pub slice_bounds-list_row-count-in-loop-j : goal.slice_bounds-list_row-count-in-loop-j
slice_bounds-list_row-count-in-loop-j c = omega (arith, room (goal.at.slice_bounds-list_row-count-in-loop-j c).In-loop-j)

pub slice_bounds-list_row-start-in-loop-j : goal.slice_bounds-list_row-start-in-loop-j
slice_bounds-list_row-start-in-loop-j c = omega (arith, room (goal.at.slice_bounds-list_row-start-in-loop-j c).In-loop-j)

pub list_row-n-requires : goal.list_row-n-requires
unfolding packed
list_row-n-requires c =
    let first = rw (to_z-of_z c.ranges.from, to_z-of_z c.ranges.to) at c.change_of-first.ensures in
    (omega arith, listed-lent _ _ _ _ _ _ c.loop-j.invariant.1 _ c.loop-j-test.true (here (goal.at.list_row-n-requires c).In-loop-j) (fits (goal.at.list_row-n-requires c).In-loop-j))

pub overflow_add-n : goal.overflow_add-n
overflow_add-n c = omega (arith, room (goal.at.overflow_add-n c).In-loop-j, c.list_row-n.ensures.0)

pub loop-j-preserved : goal.loop-j-preserved
loop-j-preserved c =
    (search rules, listed_more _ _ _ _ _ _ c.loop-j.invariant.1 _ c.loop-j-test.true (here (goal.at.loop-j-preserved c).In-loop-j) (fits (goal.at.loop-j-preserved c).In-loop-j) _ _ _ _ c.change_of-first.ensures c.list_row-n.ensures.0 c.list_row-n.ensures.1 refl)

pub shape_of-out : goal.shape_of-out
shape_of-out c = c.loop-j.invariant.1.long

pub returns : goal.returns
unfolding positions numbers
returns c =
    let all : c.loop-j.j ≡ c.args.s.h = omega arith in
    rw (all, to_z-of_z c.ranges.from, to_z-of_z c.ranges.to) at c.loop-j.invariant.1.listed
