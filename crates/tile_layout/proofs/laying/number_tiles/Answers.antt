-- `number_tiles`: the cells below c are numbered. Assumes nothing.
use native.Mathlib.Omega.{arith}
use Rattle.tile_layout.proofs.Numbered.{numbering-none, numbering-own, numbering-other, numbering-all, first-low}
use Rattle.tile_layout.proofs.laying.number_tiles.Goals as goal
use Rattle.tile_layout.proofs.laying.number_tiles.Goals.{then-f-c, else-f-c}

pub loop-c-init : goal.loop-c-init
loop-c-init c = numbering-none _

pub offset_bounds-s-f : goal.offset_bounds-s-f
offset_bounds-s-f c = omega (arith, first-low _ c.loop-c.invariant c.loop-c-test.true c.requires)

pub bounds-s-f : goal.bounds-s-f
bounds-s-f c = omega (arith, first-low _ c.loop-c.invariant c.loop-c-test.true c.requires, c.loop-c.invariant.row.long)

pub loop-c-preserved : goal.loop-c-preserved
loop-c-preserved c =
    let i = c.loop-c.invariant in
    let b = c.loop-c-test.true in
    let d = c.requires in
    elim c.if-f-c.branch [
      | then-f-c w ↦ rw (w.s-is, w.m-is) (numbering-own _ i b d w.if-f-c.true)
      | else-f-c w ↦ rw (w.s-is, w.m-is) (numbering-other _ i b d w.if-f-c.false)
    ]

pub returns : goal.returns
returns c = numbering-all _ c.loop-c.invariant c.loop-c.auto.c-end c.loop-c-test.false
