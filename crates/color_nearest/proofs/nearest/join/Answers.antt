-- `nearest::join` meets its contract: the nearer of the two, and the sum. Assumes nothing.
use Rattle.color_nearest.specs.Nearest.{joined}
use Rattle.color_nearest.proofs.nearest.join.Goals as goal

pub returns : goal.returns
unfolding joined
returns c = cc
