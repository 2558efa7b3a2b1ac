-- `check_list`: no check applied so far, and the marks after the changes so far. Assumes nothing.
use mathlib.Core.Path.{◌≡◌}
use Rattle.edit_pixels.specs.Inside.{bare}
use Rattle.struct_edit.specs.Walk.{check_upto, mark_upto}
use Rattle.struct_edit.proofs.check_list.Given as goal

abbrev pub invariant-loop-c : goal.invariant-loop-c
invariant-loop-c l =
    let s = bare l.w l.h l.k l.indices in
    (0 ≡ check_upto l.no l.replay s l.kind l.list l.c-index) × (l.marks ≡ mark_upto l.no l.replay s l.kind l.list l.initial.marks l.c-index)
