-- `paste`: what `paste_in` left in the scratch, copied out. Assumes nothing.
use mathlib.Core.Path.{refl}
use mir.Facts.{to_z-of_z}
use Rattle.change_list.proofs.InScratch.{copied}
use borrow.Author.Rules.{rules}
use Rattle.tool_paste.proofs.paste.Goals as goal

pub returns : goal.returns
returns c =
    let f = c.ranges in
    record { fact = copied (rw (to_z-of_z f.x, to_z-of_z f.y) at c.paste_in-r.ensures.fact) c.shifted_count.ensures _ refl c.copy_out.ensures; scratch_after = search rules }
