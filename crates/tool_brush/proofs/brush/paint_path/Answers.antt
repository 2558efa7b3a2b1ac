-- `paint_path`: the first point, then line after line. Assumes nothing.
use Prim.Native.Nat.{◌+◌, ◌-◌, ◌<◌}
use mathlib.Core.Path.{◌∙◌}
use native.Mathlib.Omega.{arith}
use lib.ListN.{length}
use mir.Facts.{to_z-of_z}
use Rattle.tool_stamp.proofs.Stamps.{near-close}
use Rattle.tool_reach.proofs.Paths.{Pathing, number-near, number_fits, point-near, path-short, path-start, path-whole, path-next, path-end}
use borrow.Author.Rules.{rules}
use Rattle.tool_brush.proofs.brush.paint_path.Goals as goal
use Rattle.tool_brush.proofs.brush.paint_path.Goals.{In-loop-i}

-- four numbers are there
more : (c : In-loop-i) → c.loop-i.i + 1 < length c.args.points.now
more c = let e = c.loop-i.invariant.even in let t = c.loop-i-test.true in let m = c.requires.3 in omega arith

pub returns-then-points-lt2 : goal.returns-then-points-lt2
returns-then-points-lt2 c = path-short _ _ _ _ _ c.args.scratch.now c.if-points-lt2.true _

pub paint_stamp-requires : goal.paint_stamp-requires
paint_stamp-requires c =
    let l = c.args.points.now in
    let t = c.if-points-lt2.false in
    rw (to_z-of_z (number_fits l c.requires.2 0 (omega arith)), to_z-of_z (number_fits l c.requires.2 1 (omega arith)))
    (c.requires.0, c.requires.1, near-close _ (number-near l c.requires.2 0 (omega arith)), near-close _ (number-near l c.requires.2 1 (omega arith)))

pub loop-i-init : goal.loop-i-init
loop-i-init c = path-start _ _ _ _ _ _ c.if-points-lt2.false

pub paint_line-requires : goal.paint_line-requires
paint_line-requires c =
    let l = c.args.points.now in
    let n = c.requires.2 in
    let i = c.loop-i.i in
    let m = more (goal.at.paint_line-requires c).In-loop-i in
    rw (to_z-of_z (number_fits l n (i - 2) (omega arith)), to_z-of_z (number_fits l n (i - 1) (omega arith)), to_z-of_z (number_fits l n i (omega arith)), to_z-of_z (number_fits l n (i + 1) (omega arith)), c.loop-i.invariant.long, c.paint_stamp.auto.scratch)
    (c.requires.0, c.requires.1, point-near l n (i - 2) (i - 1) (omega arith) (omega arith), point-near l n i (i + 1) (omega arith) (omega arith))

pub loop-i-preserved : goal.loop-i-preserved
loop-i-preserved c =
    let l = c.args.points.now in
    let n = c.requires.2 in
    let i = c.loop-i.i in
    let m = more (goal.at.loop-i-preserved c).In-loop-i in
    path-next _ _ _ _ _ _ _ _ _ c.loop-i.invariant m (rw (to_z-of_z (number_fits l n (i - 2) (omega arith)), to_z-of_z (number_fits l n (i - 1) (omega arith)), to_z-of_z (number_fits l n i (omega arith)), to_z-of_z (number_fits l n (i + 1) (omega arith))) at c.paint_line.ensures) c.paint_line.auto.scratch

-- the loop ends where the next place is past the last point, or after the last one
pub returns-else-points-lt2 : goal.returns-else-points-lt2
returns-else-points-lt2 c =
    let l = c.args.points.now in
    let n = c.requires.2 in
    let t = c.if-points-lt2.false in
    path-end _ _ _ _ _ _ _ _ c.loop-i.invariant c.loop-i-test.false
    ∙ path-whole _ _ _ _ l _ t _ (rw (to_z-of_z (number_fits l n 0 (omega arith)), to_z-of_z (number_fits l n 1 (omega arith))) at c.paint_stamp.ensures)

pub returns-else-points-lt2-2 : goal.returns-else-points-lt2-2
returns-else-points-lt2-2 c =
    let l = c.args.points.now in
    let n = c.requires.2 in
    let t = c.if-points-lt2.false in
    let i = c.loop-i.i in
    let m = more (goal.at.returns-else-points-lt2-2 c).In-loop-i in
    path-end _ _ _ _ _ _ _ _
    (path-next _ _ _ _ _ _ _ _ _ c.loop-i.invariant m (rw (to_z-of_z (number_fits l n (i - 2) (omega arith)), to_z-of_z (number_fits l n (i - 1) (omega arith)), to_z-of_z (number_fits l n i (omega arith)), to_z-of_z (number_fits l n (i + 1) (omega arith))) at c.paint_line.ensures) c.paint_line.auto.scratch)
    (omega arith)
    ∙ path-whole _ _ _ _ l _ t _ (rw (to_z-of_z (number_fits l n 0 (omega arith)), to_z-of_z (number_fits l n 1 (omega arith))) at c.paint_stamp.ensures)
