-- `copy_front`: the first n over the front. Assumes nothing.
use Rattle.struct_change.proofs.Loops.{copied-over}
use Rattle.struct_change.proofs.slices.copy_front.Goals as goal

pub returns : goal.returns
returns c = rw c.copy_from_slice.ensures.after (copied-over c.args.list.now c.args.out.now c.args.n c.requires.0)
