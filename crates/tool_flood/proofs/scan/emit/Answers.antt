-- `emit`: what stands at the front and what the cells ahead give is the whole. Assumes nothing.
use Prim.Native.Nat.{◌-◌}
use mathlib.Core.Logic.{⊎_elim}
use native.Mathlib.Omega.{arith}
use lib.ListN.{length}
use Rattle.change_list.proofs.Fronts.{front_of}
use Rattle.tool_fill_model.proofs.Emitting.{Emitting, emitting-start, emitting-hit, emitting-miss, emitting-end}
use borrow.Author.Rules.{rules}
use Rattle.tool_flood.proofs.scan.emit.Goals as goal
use Rattle.tool_flood.proofs.scan.emit.Goals.{then-s-p-eq1, else-s-p-eq1}

pub loop-p-init : goal.loop-p-init
loop-p-init c = emitting-start _ _ _

pub change_at-requires : goal.change_at-requires
change_at-requires c = (c.requires.0, c.requires.1, (let l = c.loop-p.invariant.long in omega (arith, c.requires.2)), c.requires.3)

pub loop-p-preserved : goal.loop-p-preserved
loop-p-preserved c =
    elim c.if-s-p-eq1.branch [
      | then-s-p-eq1 w ↦ rw (w.s-is, w.m-is) (emitting-hit _ _ _ c.loop-p.s c.loop-p.m c.loop-p.p w.change_at.result c.loop-p.invariant (omega (arith, c.loop-p.invariant.long, c.loop-p-test.true)) w.if-s-p-eq1.true w.change_at.ensures)
      | else-s-p-eq1 w ↦ rw (w.s-is, w.m-is) (emitting-miss _ _ _ c.loop-p.s c.loop-p.m c.loop-p.p c.loop-p.invariant (omega (arith, c.loop-p.invariant.long, c.loop-p-test.true)) w.if-s-p-eq1.false)
    ]

pub returns : goal.returns
returns c = front_of (emitting-end _ _ _ _ _ _ c.loop-p.invariant (omega (arith, c.loop-p.invariant.long))) (let l = c.loop-p.invariant.low in let g = c.loop-p.invariant.high in let k = c.loop-p.invariant.long in omega arith)
