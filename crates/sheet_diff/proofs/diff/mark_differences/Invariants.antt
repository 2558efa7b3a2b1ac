-- `diff::mark_differences`: the mask of the first i pixels, then what stood there. Assumes nothing.
use Rattle.sheet_diff.proofs.Mask.{Masked}
use Rattle.sheet_diff.proofs.diff.mark_differences.Given as goal

abbrev pub invariant-loop-i : goal.invariant-loop-i
invariant-loop-i l = Masked l.palette l.base l.indices l.base_indices l.initial.mask l.i l.mask
