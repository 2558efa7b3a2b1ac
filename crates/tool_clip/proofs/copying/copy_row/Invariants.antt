-- `copy_row`: i indices so far. Assumes nothing.
use Prim.Native.Nat.{◌≤◌, ◌-◌}
use native.Mathlib.Omega.{arith}
use borrow.Author.Rules.{rules}
use mir.Syntax.{w16}
use Rattle.base.proofs.Back.{back}
use Rattle.tool_snap.proofs.Rows.{Row, row-none, row_next, row-all}
use Rattle.tool_clip.specs.Clips.{index_of}
use Rattle.tool_clip.proofs.copying.copy_row.Given as goal

abbrev pub invariant-loop-i : goal.invariant-loop-i
invariant-loop-i l = (l.i ≤ l.n) × Row (index_of l.indices) l.from l.initial.out l.out l.i
