-- `put_list`: the journal after the changes so far. Assumes nothing.
use mathlib.Core.Path.{◌≡◌}
use Rattle.struct_edit.specs.Walk.{put_upto}
use Rattle.struct_edit.proofs.put_list.Given as goal

abbrev pub invariant-loop-i : goal.invariant-loop-i
invariant-loop-i l = l.journal ≡ put_upto l.form l.kind l.offset l.w l.indices l.list l.initial.journal l.i
