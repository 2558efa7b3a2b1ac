-- `with_head`: the middle number of a place. Assumes nothing.
use native.Mathlib.Omega.{arith}
use borrow.Author.Rules.{rules}
use Rattle.tile_chain.specs.Table.{found_in, head_in, next_in}
use Rattle.tile_chain.proofs.with_head.Goals as goal

pub overflow_mul-result-2 : goal.overflow_mul-result-2
unfolding next_in
overflow_mul-result-2 c = search rules

pub overflow_add-result-2 : goal.overflow_add-result-2
unfolding next_in
overflow_add-result-2 c = search rules

pub returns : goal.returns
unfolding found_in head_in next_in
returns c = record { found-is = omega arith; head-is = omega arith; next-is = omega arith }
