-- `is_listed`: whether one was met, and what is left, say what the whole list says. Assumes nothing.
use Rattle.edit_entries.proofs.Listed.{Listing}
use Rattle.edit_entries.proofs.colours.is_listed.Given as goal

abbrev pub invariant-loop-i : goal.invariant-loop-i
invariant-loop-i l = Listing l.colours l.c l.i l.found
