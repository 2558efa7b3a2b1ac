-- `with_found`: the lower and the upper number of a place. Assumes nothing.
use native.Mathlib.Omega.{arith}
use Rattle.tile_chain.specs.Table.{found_in, head_in, next_in}
use Rattle.tile_chain.proofs.with_found.Goals as goal

pub returns : goal.returns
unfolding found_in head_in next_in
returns c = record { found-is = omega arith; head-is = omega arith; next-is = omega arith }
