-- `reach`: places before the queue's head have their neighbours marked, and what is marked is reached. Assumes nothing.
use Prim.Native.Nat.{◌-◌}
use mathlib.Core.Path.{sym, ap, ◌∙◌}
use native.Mathlib.Omega.{arith}
use lib.ListN.{length, replicate}
use Rattle.tool_fill_model.proofs.Flooding.{tail-in, zeros-even}
use Rattle.tool_fill_model.proofs.Filling.{Flow, Side, fill-begin, fill_step, fill-next, fill_end, few}
use borrow.Author.Rules.{rules}
use Rattle.tool_flood.proofs.reach.reach.Given as goal

abbrev pub invariant-loop-d : goal.invariant-loop-d
invariant-loop-d l = Side l.w l.indices l.region l.start l.p l.s l.head l.tail l.d

abbrev pub invariant-loop-head : goal.invariant-loop-head
invariant-loop-head l = Flow l.w l.indices l.region l.start l.s l.head l.tail 0

abbrev pub decreases-loop-head : goal.decreases-loop-head
decreases-loop-head l = length l.indices - l.head
