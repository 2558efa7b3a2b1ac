-- `begin`: the longer side, and each axis by itself. Assumes nothing.
use native.Mathlib.Omega.{arith}
use borrow.Author.Rules.{rules}
use mir.Facts.{to_z-of_z}
use Rattle.base.proofs.Back.{by_values}
use Rattle.tool_line.specs.Walk.{axis_at, walk_at}
use Rattle.tool_line.proofs.along.begin.Goals as goal

pub returns : goal.returns
unfolding walk_at
returns c =
    let s = c.before.before.before in
    let f = s.ranges in
    let m = c.longer-steps in
    let across = by_values (λ a b. axis_at a b m.result 0) f.ax f.bx c.begin_axis.ensures in
    let down = by_values (λ a b. axis_at a b m.result 0) f.ay f.by c.begin_axis-2.ensures in
    let steps = rw (to_z-of_z f.ax, to_z-of_z f.ay, to_z-of_z f.bx, to_z-of_z f.by) at m.ensures in
    record { near-start = s.requires.0; near-end = s.requires.1; low = omega arith; is = rw (across, down, steps) }
