-- `next_in`: the upper number of a place. Assumes nothing.
use mathlib.Core.Path.{refl}
use Rattle.tile_chain.specs.Table.{next_in}
use Rattle.tile_chain.proofs.next_in.Goals as goal

pub returns : goal.returns
unfolding next_in
returns c = refl
