-- `stand_at`: the longer side, and each axis by itself. Assumes nothing.
use mathlib.Core.Path.{◌≡◌}
use Prim.Native.Nat.{◌<◌}
use native.Mathlib.Omega.{arith}
use borrow.Author.Rules.{rules}
use mir.Facts.{to_z-of_z}
use Rattle.base.proofs.Back.{by_values}
use Rattle.tool_line.specs.Line.{point, longer}
use Rattle.tool_line.specs.Walk.{axis_at, walk_at}
use Rattle.tool_line.proofs.Reaching.{BothOf, both-of}
use Rattle.tool_line.proofs.reach.stand_at.Goals as goal
use Rattle.tool_line.proofs.reach.stand_at.Goals.{After-longer-steps}

steps-is : (c : After-longer-steps) → let s = c.before.args in c.longer-steps.result ≡ longer (point s.ax s.ay) (point s.bx s.by)
steps-is c = let f = c.before.ranges in rw (to_z-of_z f.ax, to_z-of_z f.ay, to_z-of_z f.bx, to_z-of_z f.by) at c.longer-steps.ensures

axes : (c : After-longer-steps) → let s = c.before.args in BothOf (point s.ax s.ay) (point s.bx s.by) c.longer-steps.result
axes c = rw (steps-is c) (both-of _ _ c.before.requires.0 c.before.requires.1)

before : (c : After-longer-steps) → c.before.args.j < c.longer-steps.result
before c = let e = steps-is c in let h = c.before.requires.2 in omega arith

pub axis_at-requires : goal.axis_at-requires
axis_at-requires c = let f = c.ranges in rw (to_z-of_z f.ax, to_z-of_z f.bx) ((axes c).x, before c)

pub axis_at-requires-2 : goal.axis_at-requires-2
axis_at-requires-2 c = let f = c.ranges in rw (to_z-of_z f.ay, to_z-of_z f.by) ((axes c.before).y, before c.before)

pub returns : goal.returns
unfolding walk_at
returns c =
    let s = c.before.before.before in
    let f = s.ranges in
    let j = s.args.j in
    let m = c.longer-steps.result in
    let h = s.requires.2 in
    let across = by_values (λ a b. axis_at a b m j) f.ax f.bx c.axis_at.ensures in
    let down = by_values (λ a b. axis_at a b m j) f.ay f.by c.axis_at-2.ensures in
    record { near-start = s.requires.0; near-end = s.requires.1; low = omega arith; is = rw (across, down, steps-is c.before.before) }
