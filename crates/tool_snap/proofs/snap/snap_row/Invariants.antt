-- `snap_row`: i pixels so far, and the cache is sound. Assumes nothing.
use mathlib.Core.Path.{◌∙◌}
use Prim.Native.Nat.{◌≤◌, ◌-◌}
use native.Mathlib.Omega.{arith}
use borrow.Author.Rules.{rules}
use mir.Syntax.{w16}
use Rattle.base.proofs.Back.{back}
use Rattle.color_curve.specs.Curve.{curve_of, lab_by}
use Rattle.tool_snap.specs.Snap.{colour_at, snap_at}
use Rattle.tool_snap.specs.Cache.{all_ok}
use Rattle.tool_snap.proofs.Rows.{Row, row-none, row_next, row-all}
use Rattle.tool_snap.proofs.snap.snap_row.Given as goal

abbrev pub invariant-loop-i : goal.invariant-loop-i
invariant-loop-i l =
    let by = lab_by (curve_of l.loaded l.curve) in
    (l.i ≤ l.n) × Row (snap_at by l.lab l.k l.rgba) l.from l.initial.out l.out l.i × all_ok by l.lab l.k l.cache

abbrev pub decreases-loop-i : goal.decreases-loop-i
decreases-loop-i l = l.n - l.i
