-- `paint_one`: what is asked of a list of one is asked of the change. Assumes nothing.
use native.Mathlib.Omega.{arith}
use Rattle.std.proofs.lemmas.Grind.{common_steps}
use Rattle.edit_list.specs.Paintable.{Paintable}
use Rattle.struct_edit.proofs.Told.{one_inside}
use Rattle.struct_edit.proofs.paint_one.Goals as goal

pub paint_new-requires : goal.paint_new-requires
unfolding Paintable
paint_new-requires c = grind (arith, common_steps, one_inside)
