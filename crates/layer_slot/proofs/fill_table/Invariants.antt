-- `fill_table`: the words of none and of i entries so far. Assumes nothing.
use Rattle.layer_slot.specs.Slots.{Table}
use Rattle.layer_slot.proofs.fill_table.Given as goal

abbrev pub invariant-loop-i : goal.invariant-loop-i
invariant-loop-i l = Table l.i l.palettes l.table
