-- `copy_rows`: j rows so far. Assumes nothing.
use mathlib.Core.Path.{◌≡◌, refl}
use Prim.Native.Nat.{◌+◌, ◌*◌, ◌≤◌, ◌-◌}
use native.Mathlib.Omega.{arith}
use borrow.Author.Rules.{rules}
use lib.ListN.{length, length-take, length-drop}
use Rattle.selection_spans.proofs.Rows.{room}
use Rattle.selection.specs.Selection.{positions}
use Rattle.selection.proofs.Regions.{row_inside}
use Rattle.tool_snap.proofs.Rows.{Rows, rows_none, rows_next}
use Rattle.tool_clip.specs.Clips.{index_of}
use Rattle.tool_clip.proofs.copying.copy_rows.Goals as goal
use Rattle.tool_clip.proofs.copying.copy_rows.Goals.{In-loop-j}

-- the row is inside the sheet, and has room
here : (c : In-loop-j) → let a = c.args in (a.s.y + c.loop-j.j) * a.w + a.s.x + a.s.w ≤ length a.indices.now
here c = let a = c.args in omega (arith, c.requires.0, row_inside a.w a.s.y a.s.h c.loop-j.j c.loop-j-test.true)

behind : (c : In-loop-j) → let a = c.args in c.loop-j.j * a.s.w + a.s.w ≤ length a.out.now
behind c = let a = c.args in omega (arith, room a.s.w c.loop-j-test.true, c.requires.1)

pub loop-j-init : goal.loop-j-init
loop-j-init c = (search rules, rows_none _ _ _ _ _ _)

pub overflow_mul-to : goal.overflow_mul-to
overflow_mul-to c = omega (arith, here c, behind c, c.loop-j.invariant.1.long)

pub overflow_mul-y : goal.overflow_mul-y
overflow_mul-y c = omega (arith, here c, behind c, c.loop-j.invariant.1.long)

pub overflow_add-y-in-loop-j : goal.overflow_add-y-in-loop-j
overflow_add-y-in-loop-j c = omega (arith, here c, behind c, c.loop-j.invariant.1.long)

pub offset_bounds-out-to : goal.offset_bounds-out-to
offset_bounds-out-to c = omega (arith, here c, behind c, c.loop-j.invariant.1.long)

pub slice_bounds-copy_row-count : goal.slice_bounds-copy_row-count
slice_bounds-copy_row-count c = omega (arith, here c, behind c, c.loop-j.invariant.1.long)

-- LEFT part-copy-row-start : tie.Need-slice-bounds-copy-row-start invariant-loop decreases-loop
-- LEFT part-copy-row-start c = omega (arith, here c, behind c, c.before.loop.invariant.1.long)

pub copy_row-requires : goal.copy_row-requires
copy_row-requires c = (here (goal.at.copy_row-requires c).In-loop-j, simp (length-take, length-drop) (omega (arith, behind (goal.at.copy_row-requires c).In-loop-j, c.loop-j.invariant.1.long)))

pub loop-j-preserved : goal.loop-j-preserved
loop-j-preserved c = (search rules, rows_next _ _ _ _ _ c.loop-j.invariant.1 (behind (goal.at.loop-j-preserved c).In-loop-j) _ refl _ c.copy_row.ensures)

pub shape_of-out : goal.shape_of-out
shape_of-out c = c.loop-j.invariant.1.long

pub returns : goal.returns
unfolding positions
returns c = let all : c.loop-j.j ≡ c.args.s.h = omega arith in rw all at c.loop-j.invariant.1.written
