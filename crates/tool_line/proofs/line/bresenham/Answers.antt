-- `bresenham`: each test is the check in its place, and past them the walk's steps and one more are the line's points. Assumes nothing.
use mathlib.Core.Path.{◌≡◌, sym, ap, ◌∙◌}
use mathlib.Core.Bool.{false}
use Prim.Native.Nat.{◌+◌}
use native.Mathlib.Omega.{arith}
use borrow.Author.Rules.{rules}
use borrow.Author.Tests.{lt-ltb, le-ltb}
use lib.ListN.{length}
use mir.Facts.{to_z-of_z}
use Rattle.base.specs.Checks.{first_of, refused_or}
use Rattle.base.proofs.Back.{by_values}
use Rattle.tool_line.specs.Line.{Point, point, far_point, longer, line_of}
use Rattle.tool_line.proofs.Walks.{longer-near, steps-longer}
use Rattle.tool_line.proofs.Points.{near, length-line}
use Rattle.tool_line.specs.Bresenham.{line_checks, bresenham_of}
use Rattle.tool_line.proofs.line.bresenham.Goals as goal
use Rattle.tool_line.proofs.line.bresenham.Goals.{After-begin-w, After-far_point, After-far_point-2, Else-far_point, Else-far_point-2, Start}

abbrev from : Start → Point
from c = point c.args.ax c.args.ay

abbrev to : Start → Point
to c = point c.args.bx c.args.by

far_from : (c : After-far_point) → c.far_point.result ≡ far_point (from c.before)
far_from c = by_values (λ x y. far_point (point x y)) c.before.ranges.ax c.before.ranges.ay c.far_point.ensures

near-from : (c : Else-far_point) → far_point (from c.before.before) ≡ false
near-from c = sym (far_from c.before) ∙ c.if-far_point.false

far-to : (c : After-far_point-2) → c.far_point-2.result ≡ far_point (to c.before.before.before)
far-to c = let s = c.before.before.before in by_values (λ x y. far_point (point x y)) s.ranges.bx s.ranges.by c.far_point-2.ensures

near-to : (c : Else-far_point-2) → far_point (to c.before.before.before.before) ≡ false
near-to c = sym (far-to c.before) ∙ c.if-far_point-2.false

steps-is : (c : After-begin-w) → let s = c.before.before.before.before.before in c.begin-w.result.steps ≡ longer (from s) (to s)
steps-is c =
    let s = c.before.before.before.before.before in
    rw (to_z-of_z s.ranges.ax, to_z-of_z s.ranges.ay, to_z-of_z s.ranges.bx, to_z-of_z s.ranges.by) at (steps-longer c.begin-w.ensures)

count-is : (c : After-begin-w) → let s = c.before.before.before.before.before in length (line_of (from s) (to s)) ≡ c.begin-w.result.steps + 1
count-is c = let s = c.before.before.before.before.before in length-line (from s) (to s) ∙ ap (λ n. n + 1) (sym (steps-is c))

pub returns-then-far_point : goal.returns-then-far_point
unfolding bresenham_of line_checks first_of refused_or
returns-then-far_point c = rw (← far_from c.before, c.if-far_point.true)

pub returns-then-far_point-2 : goal.returns-then-far_point-2
unfolding bresenham_of line_checks first_of refused_or
returns-then-far_point-2 c = rw (near-from c.before.before, ← far-to c.before, c.if-far_point-2.true)

pub begin-w-requires : goal.begin-w-requires
begin-w-requires c =
    let s = c.before.before.before.before in
    rw (to_z-of_z s.ranges.ax, to_z-of_z s.ranges.ay, to_z-of_z s.ranges.bx, to_z-of_z s.ranges.by) (near (near-from c.before.before), near (near-to c))

pub overflow_add-count : goal.overflow_add-count
overflow_add-count c =
    let d = c.before in
    let s = d.before.before.before.before.before in
    let h = longer-near (from s) (to s) (near (near-from d.before.before.before)) (near (near-to d.before)) in
    let e = steps-is d in
    record { fits = omega arith }

pub returns-then-out-count : goal.returns-then-out-count
unfolding bresenham_of line_checks first_of refused_or
returns-then-out-count c =
    let d = c.before.before in
    rw (near-from d.before.before.before, near-to d.before, count-is d, lt-ltb _ _ c.if-out-count.true)

pub write_line-requires : goal.write_line-requires
write_line-requires c =
    let d = c.before.before.before in
    let s = c.before.before.before.before.before.before.before.before in
    let e = steps-is d in
    rw (to_z-of_z s.ranges.ax, to_z-of_z s.ranges.ay, to_z-of_z s.ranges.bx, to_z-of_z s.ranges.by) (record {
      near-start = near (near-from d.before.before.before);
      near-end = near (near-to d.before);
      room = omega arith;
    })

pub returns : goal.returns
unfolding bresenham_of line_checks first_of refused_or
returns c =
    let d = c.before.before.before.before.before in
    let s = d.before.before.before.before.before in
    let e = rw (to_z-of_z s.ranges.ax, to_z-of_z s.ranges.ay, to_z-of_z s.ranges.bx, to_z-of_z s.ranges.by) at c.write_line.ensures in
    rw (near-from d.before.before.before, near-to d.before, count-is d, le-ltb _ _ c.if-out-count.false, e)
