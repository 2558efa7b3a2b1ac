-- `head_in`: the middle number of a place. Assumes nothing.
use mathlib.Core.Path.{refl}
use native.Mathlib.Omega.{arith}
use Rattle.tile_chain.specs.Table.{head_in}
use Rattle.tile_chain.proofs.head_in.Goals as goal

pub returns : goal.returns
unfolding head_in
returns c = (refl, omega arith)
