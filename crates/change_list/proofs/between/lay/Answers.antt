-- `lay`: what was laid, over the scratch. Assumes nothing.
use borrow.Author.Rules.{rules}
use Rattle.change_list.proofs.Copying.{laying-start, laying-next, laying-laid}
use Rattle.change_list.proofs.between.lay.Goals as goal

pub loop-i-init : goal.loop-i-init
loop-i-init c = laying-start _ _

pub loop-i-preserved : goal.loop-i-preserved
loop-i-preserved c = laying-next c.args.indices.now _ c.requires c.loop-i.invariant c.loop-i-test.true (search rules) c.bits_of.ensures

pub returns-clause-scratch_after_2 : goal.returns-clause-scratch_after_2
returns-clause-scratch_after_2 c = laying-laid c.args.indices.now _ c.requires c.loop-i.invariant c.loop-i-test.false
