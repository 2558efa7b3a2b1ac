-- `slot_places`: the slots of i layers so far. Assumes nothing.
use Rattle.layer_slot.specs.Slots.{Slotted}
use Rattle.layer_slot.proofs.slot_places.Given as goal

abbrev pub invariant-loop-i : goal.invariant-loop-i
invariant-loop-i l = Slotted l.n l.indices l.i l.at l.m l.slots
