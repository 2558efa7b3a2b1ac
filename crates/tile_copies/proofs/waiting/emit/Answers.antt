-- `emit`: what stands at the front and what the places ahead give is the whole. Assumes nothing.
use Prim.Native.Nat.{◌<◌}
use lib.ListN.{length}
use native.Mathlib.Omega.{arith}
use Rattle.tile_copies.proofs.Emitting.{Emitting, emitting-start, emitting-step, emitting-end}
use Rattle.change_list.proofs.Fronts.{front_of}
use borrow.Author.Rules.{rules}
use Rattle.tile_copies.proofs.waiting.emit.Goals as goal

pub loop-p-init : goal.loop-p-init
loop-p-init c = emitting-start _ _ _

pub put_pending-m-requires : goal.put_pending-m-requires
put_pending-m-requires c =
    let p = c.requires in
    let i = c.loop-p.invariant in
    let t : c.loop-p.p < length c.loop-p.s = omega (arith, i.long, c.loop-p-test.true) in
    (p.0, p.1, omega (arith, i.long, p.3), t, i.low, omega (arith, i.long, p.2))

pub loop-p-preserved : goal.loop-p-preserved
loop-p-preserved c = emitting-step _ _ _ c.loop-p.s _ _ _ _ c.loop-p.invariant (omega (arith, c.loop-p.invariant.long, c.loop-p-test.true)) c.put_pending-m.auto.s c.put_pending-m.ensures

pub returns : goal.returns
returns c = front_of (emitting-end _ _ _ _ _ _ c.loop-p.invariant (omega (arith, c.loop-p.invariant.long))) (let l = c.loop-p.invariant.low in let g = c.loop-p.invariant.high in let k = c.loop-p.invariant.long in omega arith)
