-- `paint_rows`: so far the first j rows are painted. Assumes nothing.
use Prim.Native.Nat.{◌+◌, ◌-◌, ◌≤◌}
use mathlib.Core.Path.{◌≡◌, refl}
use mathlib.Core.List.{flat_map}
use native.Mathlib.Omega.{arith}
use lib.ListN.{length}
use mir.Facts.{to_z-of_z}
use mir.Syntax.{w32}
use mir.Val.{to_z}
use Rattle.base.specs.Lists.{range}
use Rattle.tool_stamp.specs.Places.{set_all, frame_places, Row}
use Rattle.tool_stamp.proofs.Painted.{rows_step}
use Rattle.tool_stamp.proofs.Fitting.{row-of}
use borrow.Author.Rules.{rules}
use Rattle.tool_brush.proofs.frame.paint_rows.Given as goal

abbrev pub invariant-loop-j : goal.invariant-loop-j
invariant-loop-j l = (l.j ≤ l.rows) × (length l.scratch ≡ length l.initial.scratch) × (l.scratch ≡ set_all (flat_map (frame_places l.w l.filled l.top l.bottom l.x) (range l.first l.j)) l.v l.initial.scratch)

abbrev pub decreases-loop-j : goal.decreases-loop-j
decreases-loop-j l = l.rows - l.j
