-- `paint_rows`: so far the first j rows are painted. Assumes nothing.
use Prim.Native.Nat.{◌+◌, ◌-◌, ◌≤◌}
use mathlib.Core.Path.{◌≡◌, refl}
use mathlib.Core.List.{flat_map}
use native.Mathlib.Omega.{arith}
use lib.ListN.{length}
use mir.Facts.{to_z-of_z}
use mir.Syntax.{w32}
use mir.Val.{to_z}
use Rattle.base.specs.Lists.{range}
use Rattle.tool_stamp.specs.Places.{set_all, frame_places, Row}
use Rattle.tool_stamp.proofs.Painted.{rows_step}
use Rattle.tool_stamp.proofs.Fitting.{row-of}
use borrow.Author.Rules.{rules}
use Rattle.tool_brush.proofs.frame.paint_rows.Goals as goal
use Rattle.tool_brush.proofs.frame.paint_rows.Goals.{In-loop-j}

-- the row is inside
here : (c : In-loop-j) → let a = c.args in Row a.w (a.y.start + c.loop-j.j) (length c.loop-j.scratch)
here c = rw c.loop-j.invariant.1 (row-of c.requires.0 _ c.loop-j-test.true)

pub loop-j-init : goal.loop-j-init
unfolding set_all range flat_map
loop-j-init c = (search rules, refl, refl)

pub is_whole-whole-requires : goal.is_whole-whole-requires
is_whole-whole-requires c = (here c).low

pub paint_row-requires : goal.paint_row-requires
paint_row-requires c = (here (goal.at.paint_row-requires c).In-loop-j, c.requires.1)

pub loop-j-preserved : goal.loop-j-preserved
unfolding frame_places
loop-j-preserved c =
    let a = c.args in
    (search rules, search rules, rows_step (frame_places a.w a.filled _ _ a.x) _ _ _ _ _ _ c.loop-j.invariant.2 (rw c.is_whole-whole.ensures at c.paint_row.ensures))

pub returns : goal.returns
returns c = let all : c.loop-j.j ≡ c.args.y.count = omega arith in rw (to_z-of_z c.ranges.top, to_z-of_z c.ranges.bottom, all) at c.loop-j.invariant.2
