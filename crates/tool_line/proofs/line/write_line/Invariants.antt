-- `write_line`: so far the front of the buffer is the line's first j points. Assumes nothing.
use mathlib.Core.Path.{◌≡◌, sym}
use Prim.Native.Nat.{◌-◌}
use native.Mathlib.Omega.{arith}
use borrow.Author.Rules.{rules}
use mir.Syntax.{w32}
use mir.Val.{to_z, of_z}
use mir.Facts.{to_z-of_z}
use Rattle.tool_line.specs.Line.{point}
use Rattle.tool_line.specs.Bresenham.{Room}
use Rattle.tool_line.proofs.Writing.{Writing, writing_start, inside, goes_on, writing-next, writing-end, writing-low}
use Rattle.tool_line.proofs.line.write_line.Given as goal

abbrev pub invariant-loop-j : goal.invariant-loop-j
invariant-loop-j l = Writing (point l.ax l.ay) (point l.bx l.by) l.steps l.initial.out l.w l.out l.j

abbrev pub decreases-loop-j : goal.decreases-loop-j
decreases-loop-j l = l.steps - l.j
