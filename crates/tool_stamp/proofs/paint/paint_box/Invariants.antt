-- `paint_box`: so far the first j rows are painted. Assumes nothing.
use Prim.Native.Nat.{◌+◌, ◌-◌, ◌≤◌}
use mathlib.Core.Path.{◌≡◌, refl}
use mathlib.Core.List.{flat_map}
use native.Mathlib.Omega.{arith}
use lib.ListN.{length}
use Rattle.base.specs.Lists.{range}
use Rattle.tool_stamp.specs.Places.{set_all, row_places, box_places, Row}
use Rattle.tool_stamp.proofs.Painted.{rows_step}
use Rattle.tool_stamp.proofs.Fitting.{row-of, row-start, row-run, run-start}
use borrow.Author.Rules.{rules}
use Rattle.tool_stamp.proofs.paint.paint_box.Given as goal

abbrev pub invariant-loop-j : goal.invariant-loop-j
invariant-loop-j l = (l.j ≤ l.rows) × (length l.scratch ≡ length l.initial.scratch) × (l.scratch ≡ set_all (flat_map (row_places l.w l.x) (range l.first l.j)) l.v l.initial.scratch)

abbrev pub decreases-loop-j : goal.decreases-loop-j
decreases-loop-j l = l.rows - l.j
