-- `nearest::take` meets its contract: the nearer of what was found and entry i, and the sum. Assumes nothing.
use Rattle.color_nearest.specs.Nearest.{closer, searched}
use Rattle.color_nearest.proofs.nearest.take.Goals as goal

pub returns : goal.returns
unfolding searched closer
returns c = cc
