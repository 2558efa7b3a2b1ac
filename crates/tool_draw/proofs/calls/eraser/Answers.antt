-- `eraser`: what `eraser_in` left in the scratch, copied out. Assumes nothing.
use mathlib.Core.Path.{refl}
use Rattle.change_list.proofs.InScratch.{copied}
use borrow.Author.Rules.{rules}
use Rattle.tool_draw.proofs.calls.eraser.Goals as goal

pub returns : goal.returns
returns c = record { out_after = copied c.eraser_in-r.ensures.fact c.count_of.ensures _ refl c.copy_out.ensures; scratch_len_unchanged = search rules }
