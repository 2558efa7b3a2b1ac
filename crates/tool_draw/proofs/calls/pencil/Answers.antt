-- `pencil`: what `pencil_in` left in the scratch, copied out. Assumes nothing.
use mathlib.Core.Path.{refl}
use mir.Facts.{to_z-of_z}
use Rattle.change_list.proofs.InScratch.{copied}
use borrow.Author.Rules.{rules}
use Rattle.tool_draw.proofs.calls.pencil.Goals as goal

pub returns : goal.returns
returns c =
    let f = c.ranges in
    record { out_after = copied (rw (to_z-of_z f.index) at c.pencil_in-r.ensures.fact) c.count_of.ensures _ refl c.copy_out.ensures; scratch_len_unchanged = search rules }
