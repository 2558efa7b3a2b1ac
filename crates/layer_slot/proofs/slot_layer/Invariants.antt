-- `slot_layer`: the slots of j places so far. Assumes nothing.
use Rattle.layer_slot.proofs.Slotting.{Slotting}
use Rattle.layer_slot.proofs.slot_layer.Given as goal

abbrev pub invariant-loop-j : goal.invariant-loop-j
invariant-loop-j l = Slotting l.low l.indices l.initial.slots l.slots l.j
