-- `copy_rows`: j rows so far. Assumes nothing.
use mathlib.Core.Path.{◌≡◌, refl}
use Prim.Native.Nat.{◌+◌, ◌*◌, ◌≤◌, ◌-◌}
use native.Mathlib.Omega.{arith}
use borrow.Author.Rules.{rules}
use lib.ListN.{length, length-take, length-drop}
use Rattle.selection_spans.proofs.Rows.{room}
use Rattle.selection.specs.Selection.{positions}
use Rattle.selection.proofs.Regions.{row_inside}
use Rattle.tool_snap.proofs.Rows.{Rows, rows_none, rows_next}
use Rattle.tool_clip.specs.Clips.{index_of}
use Rattle.tool_clip.proofs.copying.copy_rows.Given as goal

abbrev pub invariant-loop-j : goal.invariant-loop-j
invariant-loop-j l = (l.j ≤ l.height) × Rows (index_of l.indices) l.w l.x l.y l.width l.initial.out l.out l.j
