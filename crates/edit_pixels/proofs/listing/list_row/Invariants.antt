-- `list_row`: n of the pixels so far are on the index, and their changes are listed. Assumes nothing.
use Prim.Native.Nat.{◌+◌}
use Rattle.edit_pixels.proofs.Places.{Listing}
use Rattle.edit_pixels.proofs.listing.list_row.Given as goal

abbrev pub invariant-loop-x : goal.invariant-loop-x
invariant-loop-x l = Listing (λ p. l.first + p) l.index l.row l.initial.list l.list l.n l.x
