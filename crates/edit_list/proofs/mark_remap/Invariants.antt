-- `mark_remap`: what is left says what the whole list says, and the places met are marked. Assumes nothing.
use mathlib.Core.List.{map}
use Rattle.edit.specs.Change.{unpacked}
use Rattle.edit_pixels.specs.Inside.{bare}
use Rattle.edit_remap.proofs.Remapping.{Remapping}
use Rattle.edit_list.proofs.mark_remap.Given as goal

abbrev pub invariant-loop-c : goal.invariant-loop-c
invariant-loop-c l = Remapping (bare l.w l.h l.k l.indices) l.index (map unpacked l.list) l.initial.marks l.c-index l.marks
