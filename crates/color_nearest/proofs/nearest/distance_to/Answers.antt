-- `nearest::distance_to` meets its contract, by those of the two that it calls. Assumes nothing.
use Rattle.color_nearest.proofs.nearest.distance_to.Goals as goal

pub returns : goal.returns
returns c = cc
