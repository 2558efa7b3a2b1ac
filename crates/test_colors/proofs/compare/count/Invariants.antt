use Rattle.std.proofs.Common.{length}
use Rattle.test_colors.specs.Counts.{Counts}
use Rattle.test_colors.proofs.compare.count.Given as goal

abbrev pub invariant-loop-colour : goal.invariant-loop-colour
invariant-loop-colour l = Counts (length l.yielded) l.t
