-- `move_selection`: what `move_selection_in` left in the scratch, copied out. Assumes nothing.
use mathlib.Core.Path.{refl}
use mir.Facts.{to_z-of_z}
use Rattle.change_list.proofs.InScratch.{copied}
use borrow.Author.Rules.{rules}
use Rattle.tool_move.proofs.moving.move_selection.Goals as goal

pub returns : goal.returns
returns c =
    let f = c.ranges in
    record { fact = copied (rw (to_z-of_z f.dx, to_z-of_z f.dy) at c.move_selection_in-r.ensures.fact) c.shifted_count.ensures _ refl c.copy_out.ensures; scratch_after = search rules }
