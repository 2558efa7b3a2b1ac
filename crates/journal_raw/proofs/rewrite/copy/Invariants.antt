-- `rewrite::copy`: each turn copies one byte more. Assumes nothing.
use lib.ListN.{take, drop}
use Rattle.journal_raw.proofs.Rewriting.{Put}
use Rattle.journal_raw.proofs.rewrite.copy.Given as goal

abbrev pub invariant-loop-i : goal.invariant-loop-i
invariant-loop-i l = Put l.initial.out l.to (take l.i (drop l.at l.bytes)) l.out
