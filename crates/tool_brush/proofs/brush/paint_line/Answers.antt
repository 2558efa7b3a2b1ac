-- `paint_line`: before step j of those that are walked, the points after the first and before it are stamped. Assumes nothing.
use Prim.Native.Nat.{◌-◌, ◌≤◌}
use mathlib.Core.Path.{◌≡◌}
use native.Mathlib.Omega.{arith}
use mir.Syntax.{w32}
use mir.Val.{to_z}
use mir.Facts.{to_z-of_z}
use Rattle.tool_line.specs.Line.{point}
use Rattle.tool_line.proofs.Walks.{walking, longer-near}
use Rattle.tool_stamp.proofs.Stamps.{Lining, Standing, stand-close}
use Rattle.tool_brush.proofs.Walked.{walked_more, walked_none, walked_start, walked_next, walked_end}
use borrow.Author.Rules.{rules}
use Rattle.tool_brush.proofs.brush.paint_line.Goals as goal
use Rattle.tool_brush.proofs.brush.paint_line.Goals.{After-step-walk}

-- where the brush is after the step
close : (c : After-step-walk) → Standing c.step-walk.result
close c =
    let i = c.loop-j.invariant in
    let t = c.touched_steps-steps.ensures in
    stand-close (c.step-walk.ensures _ _ _ i.2.stands (walked_more t _ i.0 c.loop-j-test.true))

pub touched_steps-steps-requires : goal.touched_steps-steps-requires
touched_steps-steps-requires c =
    let f = c.ranges in
    let p = c.requires.0 in
    let width = p.width in
    let right = p.right in
    rw (to_z-of_z f.ax, to_z-of_z f.ay, to_z-of_z f.bx, to_z-of_z f.by)
    (record { right = omega arith; bottom = p.bottom }, c.requires.1, c.requires.2, c.requires.3)

pub returns-then-end-first : goal.returns-then-end-first
returns-then-end-first c =
    let f = c.ranges in
    let a = c.args in
    rw (to_z-of_z f.ax, to_z-of_z f.ay, to_z-of_z f.bx, to_z-of_z f.by) at
    (walked_none c.touched_steps-steps.ensures c.requires.1 a.w a.v a.scratch.now c.if-end-first.true)

pub overflow_sub-first : goal.overflow_sub-first
overflow_sub-first c = c.touched_steps-steps.ensures.after

pub stand_at-walk-requires : goal.stand_at-walk-requires
stand_at-walk-requires c =
    let f = c.ranges in
    let more = walked_more c.touched_steps-steps.ensures _ (omega arith) c.if-end-first.false in
    (rw (to_z-of_z f.ax, to_z-of_z f.ay) c.requires.2, rw (to_z-of_z f.bx, to_z-of_z f.by) c.requires.3, more)

pub loop-j-init : goal.loop-j-init
loop-j-init c =
    let l = c.if-end-first.false in
    (omega arith, omega arith, walked_start c.touched_steps-steps.ensures c.requires.1 _ _ _ c.stand_at-walk.ensures)

pub step-walk-requires : goal.step-walk-requires
step-walk-requires c =
    let i = c.loop-j.invariant in
    let t = c.touched_steps-steps.ensures in
    walking i.2.stands (walked_more t _ i.0 c.loop-j-test.true)

pub paint_stamp-requires : goal.paint_stamp-requires
paint_stamp-requires c =
    let f = close (goal.at.paint_stamp-requires c).After-step-walk in
    rw (to_z-of_z f.x_fits, to_z-of_z f.y-fits, c.loop-j.invariant.2.long) (c.requires.0, c.requires.1, f.across, f.down)

pub overflow_step-j : goal.overflow_step-j
overflow_step-j c =
    let up = c.touched_steps-steps.ensures.upto in
    let k = c.loop-j-test.true in
    let i = c.loop-j.invariant.2.stands in
    omega (arith, longer-near _ _ i.near-start i.near-end)

pub loop-j-preserved : goal.loop-j-preserved
loop-j-preserved c =
    let stamp = c.paint_stamp in
    let f = close (goal.at.loop-j-preserved c).After-step-walk in
    let i = c.loop-j.invariant in
    let low = i.0 in
    let k = c.loop-j-test.true in
    let painted = rw (to_z-of_z f.x_fits, to_z-of_z f.y-fits) at stamp.ensures in
    let next = walked_next c.touched_steps-steps.ensures c.requires.1 _ _ _ low k i.2 c.step-walk.ensures painted stamp.auto.scratch in
    (omega arith, omega arith, next)

pub shape_of-scratch : goal.shape_of-scratch
shape_of-scratch c = c.loop-j.invariant.2.long

pub returns : goal.returns
returns c =
    let f = c.ranges in
    let t = c.touched_steps-steps.ensures in
    let one = t.after in
    let i = c.loop-j.invariant in
    let low = i.0 in
    let high = i.1 in
    let k = c.loop-j-test.false in
    let e : c.loop-j.j ≡ c.touched_steps-steps.result.end = omega arith in
    rw (to_z-of_z f.ax, to_z-of_z f.ay, to_z-of_z f.bx, to_z-of_z f.by) at (walked_end t c.requires.1 _ _ _ (omega arith) (rw e at i.2))
