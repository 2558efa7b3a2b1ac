-- `stroke_rows`: from where the brush starts at the one row to where it ends at the other. Assumes nothing.
use native.Mathlib.Omega.{arith}
use mir.Facts.{to_z-of_z}
use Rattle.tool_reach.proofs.Reached.{stamp-ends, stroke-holds}
use borrow.Author.Rules.{rules}
use Rattle.tool_reach.proofs.rows.stroke_rows.Goals as goal

pub overflow_add-last : goal.overflow_add-last
overflow_add-last c =
    let a = c.args in
    omega (arith, stamp-ends a.region _ c.requires.0 a.low a.high (rw (to_z-of_z c.ranges.high) at c.stamp_run-last.ensures))

pub returns : goal.returns
returns c ps a =
    let first = rw (to_z-of_z c.ranges.low) at c.stamp_run-first.ensures in
    let last = rw (to_z-of_z c.ranges.high) at c.stamp_run-last.ensures in
    rw c.saturating_sub.ensures (stroke-holds _ _ c.requires.0 _ _ first last ps a)
