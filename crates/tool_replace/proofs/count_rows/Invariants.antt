-- `count_rows`: so far n pixels of the first j rows`. Assumes nothing.
use mathlib.Core.Path.{◌≡◌}
use Prim.Native.Nat.{◌+◌, ◌*◌, ◌≤◌, ◌-◌}
use native.Mathlib.Omega.{arith}
use borrow.Author.Rules.{rules}
use lib.ListN.{length}
use mir.Syntax.{w16}
use mir.Val.{to_z, of_z}
use mir.Facts.{to_z-of_z}
use Rattle.selection.specs.Selection.{positions}
use Rattle.selection.proofs.Regions.{row_inside}
use Rattle.tool_fill_model.proofs.Rows.{Counted, counted_none, counted-more}
use Rattle.tool_replace.proofs.count_rows.Given as goal

abbrev pub invariant-loop-j : goal.invariant-loop-j
invariant-loop-j l = (l.j ≤ l.height) × Counted l.w l.indices l.from l.x l.y l.width l.n l.j

abbrev pub decreases-loop-j : goal.decreases-loop-j
decreases-loop-j l = l.height - l.j
