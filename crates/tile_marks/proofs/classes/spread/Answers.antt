-- `spread`: from the last place on. Assumes nothing.
use Prim.Native.Nat.{◌-◌}
use native.Mathlib.Omega.{arith}
use mathlib.Core.Path.{refl}
use Rattle.tile_marks.proofs.Spreading.{Spreading, spreading-start, spreading-step, spreading-end, code_is}
use borrow.Author.Rules.{rules}
use Rattle.tile_marks.proofs.classes.spread.Goals as goal

pub loop-p-init : goal.loop-p-init
loop-p-init c = spreading-start _ _ _

pub cell_of-requires : goal.cell_of-requires
cell_of-requires c = let p = c.requires in let i = c.loop-p.invariant in (p.side, p.wide, omega (arith, i.high, p.small, c.loop-p-test.true))

pub bounds-s-cell_of : goal.bounds-s-cell_of
bounds-s-cell_of c = omega (arith, c.cell_of.ensures.1, c.loop-p.invariant.long, c.loop-p.invariant.high, c.loop-p-test.true)

pub class_by-requires : goal.class_by-requires
class_by-requires c =
    let p = c.requires in
    let i = c.loop-p.invariant in
    let e = code_is _ _ _ _ _ i c.loop-p-test.true _ _ c.cell_of.ensures.0 refl in
    (p.side, p.wide, rw e (omega (arith, p.within (c.loop-p.p - 1) (omega (arith, i.high, c.loop-p-test.true)), p.small)))

pub bounds-s-p : goal.bounds-s-p
bounds-s-p c = omega (arith, c.loop-p.invariant.long, c.loop-p.invariant.high, c.loop-p-test.true)

pub loop-p-preserved : goal.loop-p-preserved
loop-p-preserved c = spreading-step _ _ _ _ _ c.loop-p.invariant c.loop-p-test.true _ _ c.cell_of.ensures.0 refl _ c.class_by.ensures

pub returns : goal.returns
returns c = spreading-end _ _ _ _ _ c.loop-p.invariant c.loop-p-test.false
