-- `emit`: what stands at the front and what the cells ahead give is the whole. Assumes nothing.
use Prim.Native.Nat.{◌-◌}
use mathlib.Core.Logic.{⊎_elim}
use native.Mathlib.Omega.{arith}
use lib.ListN.{length}
use Rattle.change_list.proofs.Fronts.{front_of}
use Rattle.tool_fill_model.proofs.Emitting.{Emitting, emitting-start, emitting-hit, emitting-miss, emitting-end}
use borrow.Author.Rules.{rules}
use Rattle.tool_flood.proofs.scan.emit.Given as goal

abbrev pub invariant-loop-p : goal.invariant-loop-p
invariant-loop-p l = Emitting l.w l.pair l.initial.s l.s l.m l.p
