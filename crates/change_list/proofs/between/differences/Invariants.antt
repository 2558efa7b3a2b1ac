-- `differences`: what stands there and the rows below give the whole. Assumes nothing.
use Rattle.change_list.proofs.Rows.{Listing}
use Rattle.change_list.proofs.between.differences.Given as goal

abbrev pub invariant-loop-y : goal.invariant-loop-y
invariant-loop-y l = Listing l.w l.first l.count l.indices l.initial.scratch l.scratch l.m l.y
