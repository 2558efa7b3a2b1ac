-- `clear_locks`: k marks are false, and then come the others. Assumes nothing.
use mathlib.Core.Bool.{false}
use lib.ListN.{length-replicate}
use lib.Seq.{length-take-le}
use Rattle.base.proofs.Over.{over-is}
use Rattle.sheet.specs.Document.{cleared_marks}
use Rattle.sheet.proofs.locks.clear_locks.Goals as goal

pub returns : goal.returns
unfolding cleared_marks
returns c =
    let k = c.args.k in
    let locks = c.args.locks.now in
    rw (c.fill.ensures.after (λ y e. e), length-take-le k locks c.requires) (over-is _ locks k (length-replicate k false))
