-- `write_line`: so far the front of the buffer is the line's first j points. Assumes nothing.
use mathlib.Core.Path.{◌≡◌, sym}
use Prim.Native.Nat.{◌-◌}
use native.Mathlib.Omega.{arith}
use borrow.Author.Rules.{rules}
use mir.Syntax.{w32}
use mir.Val.{to_z, of_z}
use mir.Facts.{to_z-of_z}
use Rattle.tool_line.specs.Line.{point}
use Rattle.tool_line.specs.Bresenham.{Room}
use Rattle.tool_line.proofs.Writing.{Writing, writing_start, inside, goes_on, writing-next, writing-end, writing-low}
use Rattle.tool_line.proofs.line.write_line.Goals as goal
use Rattle.tool_line.proofs.line.write_line.Goals.{After-loop-j, Start}

-- what was asked, of the numbers as they are handed on
asked : (c : Start) → let s = c.args in Room (point (to_z w32 (of_z w32 s.ax)) (to_z w32 (of_z w32 s.ay))) (point (to_z w32 (of_z w32 s.bx)) (to_z w32 (of_z w32 s.by))) s.out.now
asked c = rw (to_z-of_z c.ranges.ax, to_z-of_z c.ranges.ay, to_z-of_z c.ranges.bx, to_z-of_z c.ranges.by) c.requires

all : (c : After-loop-j) → c.before.loop-j.j ≡ c.before.before.begin-w.result.steps
all c = let l = c.before.loop-j in omega (arith, writing-low _ _ _ _ l.w l.out l.j l.invariant)

pub begin-w-requires : goal.begin-w-requires
begin-w-requires c = ((asked c).near-start, (asked c).near-end)

pub loop-j-init : goal.loop-j-init
loop-j-init c = writing_start _ _ c.begin-w.result _ (asked c.before) c.begin-w.ensures

pub put_point-requires : goal.put_point-requires
put_point-requires c = let l = c.loop-j in inside _ _ _ _ l.w l.out l.j l.invariant

pub step-w-requires : goal.step-w-requires
step-w-requires c = let l = c.loop-j in goes_on _ _ _ _ l.w l.out l.j l.invariant c.loop-j-test.true

pub loop-j-preserved : goal.loop-j-preserved
loop-j-preserved c = let l = c.loop-j in writing-next _ _ _ _ l.w l.out l.j l.invariant c.step-w.result _ c.loop-j-test.true c.put_point.ensures c.step-w.ensures

pub put_point-requires-2 : goal.put_point-requires-2
put_point-requires-2 c = let l = c.loop-j in rw (sym (all c.before)) (inside _ _ _ _ l.w l.out l.j l.invariant)

pub returns : goal.returns
returns c =
    let s = c.before.before.before.before.before.before in
    let l = c.loop-j in
    let e = rw (sym (all c.before.before.before)) at c.put_point-2.ensures in
    rw (to_z-of_z s.ranges.ax, to_z-of_z s.ranges.ay, to_z-of_z s.ranges.bx, to_z-of_z s.ranges.by) at (writing-end _ _ _ _ l.w l.out l.j l.invariant _ (all c.before.before.before) e)
