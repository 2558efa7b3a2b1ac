-- `touched_steps`: the steps of both axes. Assumes nothing.
use mathlib.Core.Path.{◌≡◌}
use native.Mathlib.Omega.{arith}
use borrow.Author.Rules.{rules}
use mir.Facts.{to_z-of_z}
use Rattle.tool_line.specs.Line.{point, longer}
use Rattle.tool_line.proofs.Reaching.{BothOf, both-of}
use Rattle.tool_reach.proofs.Touching.{both-touched}
use Rattle.tool_reach.proofs.touch.touched_steps.Goals as goal
use Rattle.tool_reach.proofs.touch.touched_steps.Goals.{After-longer-m}

steps-is : (c : After-longer-m) → let s = c.args in c.longer-m.result ≡ longer (point s.ax s.ay) (point s.bx s.by)
steps-is c = let f = c.ranges in rw (to_z-of_z f.ax, to_z-of_z f.ay, to_z-of_z f.bx, to_z-of_z f.by) at c.longer-m.ensures

axes : (c : After-longer-m) → let s = c.args in BothOf (point s.ax s.ay) (point s.bx s.by) c.longer-m.result
axes c = rw (steps-is c) (both-of _ _ c.requires.2 c.requires.3)

pub touching-x-requires : goal.touching-x-requires
touching-x-requires c =
    let r = c.requires.0.right in
    rw (to_z-of_z c.ranges.ax, to_z-of_z c.ranges.bx) ((axes (goal.at.touching-x-requires c).After-longer-m).x, c.requires.1, omega arith, r)

pub touching-y-requires : goal.touching-y-requires
touching-y-requires c =
    let r = c.requires.0.bottom in
    rw (to_z-of_z c.ranges.ay, to_z-of_z c.ranges.by) ((axes (goal.at.touching-y-requires c).After-longer-m).y, c.requires.1, omega arith, r)

pub overflow_add-m : goal.overflow_add-m
overflow_add-m c = let l = (axes (goal.at.overflow_add-m c).After-longer-m).x.long in omega arith

pub returns : goal.returns
returns c =
    let f = c.ranges in
    let x = c.touching-x in
    let y = c.touching-y in
    let across = rw (to_z-of_z f.ax, to_z-of_z f.bx, steps-is (goal.at.returns c).After-longer-m) at x.ensures in
    let down = rw (to_z-of_z f.ay, to_z-of_z f.by, steps-is (goal.at.returns c).After-longer-m) at y.ensures in
    rw (c.max_usize-2.ensures, c.max_usize.ensures, c.min_usize-2.ensures, c.min_usize.ensures, steps-is (goal.at.returns c).After-longer-m)
    (both-touched _ _ _ _ x.result y.result across down)
