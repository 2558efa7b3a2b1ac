-- `row_differences`: what stands there and what is still to be written give the whole. Assumes nothing.
use Rattle.change_list.proofs.Rows.{Rowing}
use Rattle.change_list.proofs.between.row_differences.Given as goal

abbrev pub invariant-loop-x : goal.invariant-loop-x
invariant-loop-x l = Rowing l.row l.first l.at l.initial.s l.m-2 l.s l.m l.x
