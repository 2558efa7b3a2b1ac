-- `any_outside`: the flag and the structs that are left say what all say. Assumes nothing.
use Rattle.base.proofs.Scan.{Flagged}
use Rattle.edit.specs.Change.{outside, unpacked}
use Rattle.struct_change.specs.Struct.{packed_of}
use Rattle.struct_change.proofs.slices.any_outside.Given as goal

abbrev pub invariant-loop-c : goal.invariant-loop-c
invariant-loop-c l = Flagged (λ c. outside l.w l.h (unpacked (packed_of c))) l.c-items l.c-index l.off
