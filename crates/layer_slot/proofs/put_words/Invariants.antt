-- `put_words`: the words of j slots so far. Assumes nothing.
use Rattle.layer_word.proofs.Painted.{Painted}
use Rattle.layer_slot.specs.Slots.{word_at}
use Rattle.layer_slot.proofs.put_words.Given as goal

abbrev pub invariant-loop-j : goal.invariant-loop-j
invariant-loop-j l = Painted (word_at l.table l.slots) l.initial.out l.out l.j
