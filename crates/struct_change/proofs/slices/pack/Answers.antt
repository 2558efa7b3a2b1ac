-- `pack`: the first i, packed, over the front. Assumes nothing.
use borrow.Author.Rules.{rules}
use Rattle.base.proofs.Over.{over_none}
use Rattle.struct_change.proofs.Loops.{pack-next}
use Rattle.struct_change.proofs.slices.pack.Goals as goal

pub loop-i-init : goal.loop-i-init
loop-i-init c = over_none _

pub loop-i-preserved : goal.loop-i-preserved
loop-i-preserved c = pack-next c.args.list.now c.args.flat.now c.requires.0 c.requires.1 (search rules) c.packed.ensures c.loop-i.invariant
