-- `paint_box`: so far the first j rows are painted. Assumes nothing.
use Prim.Native.Nat.{◌+◌, ◌-◌, ◌≤◌}
use mathlib.Core.Path.{◌≡◌, refl}
use mathlib.Core.List.{flat_map}
use native.Mathlib.Omega.{arith}
use lib.ListN.{length}
use Rattle.base.specs.Lists.{range}
use Rattle.tool_stamp.specs.Places.{set_all, row_places, box_places, Row}
use Rattle.tool_stamp.proofs.Painted.{rows_step}
use Rattle.tool_stamp.proofs.Fitting.{row-of, row-start, row-run, run-start}
use borrow.Author.Rules.{rules}
use Rattle.tool_stamp.proofs.paint.paint_box.Goals as goal
use Rattle.tool_stamp.proofs.paint.paint_box.Goals.{In-loop-j}

-- the row is inside
here : (c : In-loop-j) → let a = c.args in Row a.w (a.y.start + c.loop-j.j) (length c.loop-j.scratch)
here c = rw c.loop-j.invariant.1 (row-of c.requires.0 _ c.loop-j-test.true)

pub loop-j-init : goal.loop-j-init
unfolding set_all range flat_map
loop-j-init c = (search rules, refl, refl)

pub overflow_mul-first : goal.overflow_mul-first
overflow_mul-first c = omega (arith, row-start (here (goal.at.overflow_mul-first c).In-loop-j))

pub overflow_add-first-in-loop-j : goal.overflow_add-first-in-loop-j
overflow_add-first-in-loop-j c = omega (arith, run-start (here (goal.at.overflow_add-first-in-loop-j c).In-loop-j) c.args.x c.requires.1)

pub paint_run-requires : goal.paint_run-requires
paint_run-requires c = row-run (here (goal.at.paint_run-requires c).In-loop-j) c.args.x c.requires.1

pub loop-j-preserved : goal.loop-j-preserved
unfolding row_places
loop-j-preserved c = let a = c.args in (search rules, search rules, rows_step (row_places a.w a.x) _ _ _ _ _ _ c.loop-j.invariant.2 c.paint_run.ensures)

pub returns : goal.returns
unfolding box_places
returns c = let all : c.loop-j.j ≡ c.args.y.count = omega arith in rw all at c.loop-j.invariant.2
