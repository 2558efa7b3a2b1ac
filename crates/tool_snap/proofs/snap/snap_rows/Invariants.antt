-- `snap_rows`: y rows so far, and the cache is sound. Assumes nothing.
use mathlib.Core.Path.{◌≡◌}
use Prim.Native.Nat.{◌+◌, ◌*◌, ◌≤◌, ◌-◌}
use native.Mathlib.Nat.{mul_comm}
use native.Mathlib.Omega.{arith}
use borrow.Author.Rules.{rules}
use lib.ListN.{length, length-take, length-drop}
use Rattle.selection_spans.proofs.Rows.{room}
use Rattle.selection.specs.Selection.{all, positions}
use Rattle.color_curve.specs.Curve.{curve_of, lab_by}
use Rattle.tool_snap.specs.Snap.{snap_at}
use Rattle.tool_snap.specs.Cache.{all_ok}
use Rattle.tool_snap.proofs.Rows.{Rows, rows_none, rows_next}
use Rattle.tool_snap.proofs.Slots.{all-empty}
use Rattle.tool_snap.proofs.snap.snap_rows.Given as goal

abbrev pub invariant-loop-y : goal.invariant-loop-y
invariant-loop-y l =
    let by = lab_by (curve_of l.loaded l.curve) in
    (l.y ≤ l.h) × Rows (snap_at by l.lab l.k l.rgba) l.image_w 0 0 l.w l.initial.out l.out l.y × all_ok by l.lab l.k l.cache

abbrev pub decreases-loop-y : goal.decreases-loop-y
decreases-loop-y l = l.h - l.y
