-- `unpack`: the first i, as structs, over the front. Assumes nothing.
use borrow.Author.Rules.{rules}
use Rattle.base.proofs.Over.{over_none}
use Rattle.struct_change.proofs.Loops.{unpack-next}
use Rattle.struct_change.proofs.slices.unpack.Goals as goal

pub loop-i-init : goal.loop-i-init
loop-i-init c = over_none _

pub loop-i-preserved : goal.loop-i-preserved
loop-i-preserved c =
    unpack-next c.args.flat.now c.args.out.now _ c.requires.0 c.requires.1 (search rules) (c.type_inv.flat c.loop-i.i).fits c.unpacked.ensures c.loop-i.invariant
