-- `reach_of`: the rows of the points passed lie between the two bounds. Assumes nothing.
use Prim.Native.Nat.{◌+◌, ◌-◌}
use mathlib.Core.Path.{◌∙◌}
use native.Mathlib.Omega.{arith}
use mir.Facts.{to_z-of_z}
use Rattle.tool_reach.proofs.Paths.{number_fits}
use Rattle.tool_reach.proofs.Reached.{reaching-start, passed-none, passed-row, row-within, passed-next, passed-end}
use Rattle.tool_reach.proofs.rows.reach_of.Goals as goal

pub loop-point-init : goal.loop-point-init
loop-point-init c =
    let near = c.requires.1 in
    let from = c.chunks_exact-point-items.ensures in
    rw c.into_iter-point-iterator.ensures.into_iter_gives
    (from.size, passed-none _ _ from.rest (rw (to_z-of_z (number_fits _ near 1 c.requires.0)) (reaching-start _ near c.requires.0)))

pub loop-point-preserved : goal.loop-point-preserved
loop-point-preserved c =
    let near = c.requires.1 in
    let s = c.in-Some.ensures.steps in
    let g = c.loop-point.invariant.1 in
    let two = s.1.1 ∙ c.loop-point.invariant.0 in
    let fits = rw (← passed-row _ g _ _ s.1.0 two) at (number_fits _ near _ (row-within _ g _ _ s.1.0 two)) in
    (s.0 ∙ c.loop-point.invariant.0, passed-next _ g _ _ s.1.0 two near (rw (to_z-of_z fits) at c.widen-r.ensures))

pub returns : goal.returns
returns c =
    let s = c.in-None.ensures.steps in
    passed-end _ c.requires.1 c.loop-point.invariant.1 (omega (arith, s.1.0, c.loop-point.invariant.0))
