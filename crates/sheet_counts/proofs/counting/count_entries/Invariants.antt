-- `counting::count_entries`: the counts of the first pixels, then what stood there. Assumes nothing.
use lib.ListN.{drop}
use Rattle.sheet_counts.proofs.Turns.{Counted}
use Rattle.sheet_counts.proofs.counting.count_entries.Given as goal

abbrev pub invariant-loop-z : goal.invariant-loop-z
invariant-loop-z l = Counted l.k l.indices (drop l.k l.fn.out) l.z-index l.out
