-- `paint_line`: before step j of those that are walked, the points after the first and before it are stamped. Assumes nothing.
use Prim.Native.Nat.{◌-◌, ◌≤◌}
use mathlib.Core.Path.{◌≡◌}
use native.Mathlib.Omega.{arith}
use mir.Syntax.{w32}
use mir.Val.{to_z}
use mir.Facts.{to_z-of_z}
use Rattle.tool_line.specs.Line.{point}
use Rattle.tool_line.proofs.Walks.{walking, longer-near}
use Rattle.tool_stamp.proofs.Stamps.{Lining, Standing, stand-close}
use Rattle.tool_brush.proofs.Walked.{walked_more, walked_none, walked_start, walked_next, walked_end}
use borrow.Author.Rules.{rules}
use Rattle.tool_brush.proofs.brush.paint_line.Given as goal

abbrev pub invariant-loop-j : goal.invariant-loop-j
invariant-loop-j l = (l.first ≤ l.j) × (l.j ≤ l.end) × Lining l.region l.w l.n l.v (point l.ax l.ay) (point l.bx l.by) l.initial.scratch l.walk l.scratch (l.j - 1)

abbrev pub decreases-loop-j : goal.decreases-loop-j
decreases-loop-j l = l.end - l.j
