-- `lay`: what was laid, over the scratch. Assumes nothing.
use Rattle.change_list.proofs.Copying.{Laying}
use Rattle.change_list.proofs.between.lay.Given as goal

abbrev pub invariant-loop-i : goal.invariant-loop-i
invariant-loop-i l = Laying l.indices l.initial.scratch l.scratch l.i
