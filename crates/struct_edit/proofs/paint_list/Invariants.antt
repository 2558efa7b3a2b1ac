-- `paint_list`: the picture after the changes so far. Assumes nothing.
use mathlib.Core.Path.{◌≡◌}
use Rattle.struct_edit.specs.Walk.{paint_upto}
use Rattle.struct_edit.proofs.paint_list.Given as goal

abbrev pub invariant-loop-change : goal.invariant-loop-change
invariant-loop-change l = l.indices ≡ paint_upto l.kind l.w l.list l.initial.indices l.change-index
