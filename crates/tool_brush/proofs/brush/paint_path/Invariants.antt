-- `paint_path`: the first point, then line after line. Assumes nothing.
use Prim.Native.Nat.{◌+◌, ◌-◌, ◌<◌}
use mathlib.Core.Path.{◌∙◌}
use native.Mathlib.Omega.{arith}
use lib.ListN.{length}
use mir.Facts.{to_z-of_z}
use Rattle.tool_stamp.proofs.Stamps.{near-close}
use Rattle.tool_reach.proofs.Paths.{Pathing, number-near, number_fits, point-near, path-short, path-start, path-whole, path-next, path-end}
use borrow.Author.Rules.{rules}
use Rattle.tool_brush.proofs.brush.paint_path.Given as goal

abbrev pub invariant-loop-i : goal.invariant-loop-i
invariant-loop-i l = Pathing l.region l.w l.n l.v l.points l.initial.scratch l.scratch l.i

abbrev pub decreases-loop-i : goal.decreases-loop-i
decreases-loop-i l = length l.points - l.i
