-- `count_on`: n of the pixels so far are on the index. Assumes nothing.
use Rattle.edit_pixels.proofs.Places.{Counting}
use Rattle.edit_pixels.proofs.listing.count_on.Given as goal

abbrev pub invariant-loop-z : goal.invariant-loop-z
invariant-loop-z l = Counting l.index l.row l.n l.z-index
