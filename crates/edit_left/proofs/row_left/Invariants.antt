-- `row_left`: the flag and what is left of the row say what the whole row says. Assumes nothing.
use lib.ListN.{length}
use Rattle.base.specs.Lists.{range}
use Rattle.base.proofs.Scan.{Flagged}
use Rattle.edit_pixels.specs.Inside.{left_at}
use Rattle.edit_left.proofs.row_left.Given as goal

abbrev pub invariant-loop-z : goal.invariant-loop-z
invariant-loop-z l = Flagged (left_at l.index l.row l.marks) (range 0 (length l.row)) (length l.yielded) l.left
