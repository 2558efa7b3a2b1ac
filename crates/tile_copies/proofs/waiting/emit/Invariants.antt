-- `emit`: what stands at the front and what the places ahead give is the whole. Assumes nothing.
use Prim.Native.Nat.{◌-◌}
use lib.ListN.{length}
use native.Mathlib.Omega.{arith}
use Rattle.tile_copies.proofs.Emitting.{Emitting, emitting-start, emitting-step, emitting-end}
use Rattle.change_list.proofs.Fronts.{front_of}
use borrow.Author.Rules.{rules}
use Rattle.tile_copies.proofs.waiting.emit.Given as goal

abbrev pub invariant-loop-p : goal.invariant-loop-p
invariant-loop-p l = Emitting l.w l.indices l.initial.s l.s l.m l.p
