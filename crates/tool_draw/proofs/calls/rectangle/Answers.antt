-- `rectangle`: what `rectangle_in` left in the scratch, copied out. Assumes nothing.
use mathlib.Core.Path.{refl}
use mir.Facts.{to_z-of_z}
use Rattle.change_list.proofs.InScratch.{copied}
use borrow.Author.Rules.{rules}
use Rattle.tool_draw.proofs.calls.rectangle.Goals as goal

pub returns : goal.returns
returns c =
    let f = c.ranges in
    record { out_after = copied (rw (to_z-of_z f.ax, to_z-of_z f.ay, to_z-of_z f.bx, to_z-of_z f.by, to_z-of_z f.index) at c.rectangle_in-r.ensures.fact) c.count_of.ensures _ refl c.copy_out.ensures; scratch_len_unchanged = search rules }
