-- `lower_above`: the indices so far are done, and the others as they were. Assumes nothing.
use mathlib.Core.Path.{◌≡◌}
use mathlib.Core.List.{◌++◌, map}
use lib.ListN.{take, drop}
use Rattle.edit.specs.Storage.{lowered}
use Rattle.edit_renumber.proofs.indices.lower_above.Given as goal

abbrev pub invariant-loop-z : goal.invariant-loop-z
invariant-loop-z l = l.indices ≡ map (lowered l.index) (take l.z-index l.initial.indices) ++ drop l.z-index l.initial.indices
