-- `nearest::dist2` meets its contract: the code is the definition. Assumes nothing.
use mathlib.Core.Path.{refl}
use Rattle.color_nearest.specs.Nearest.{dist2_of}
use Rattle.color_nearest.proofs.nearest.dist2.Goals as goal

pub returns : goal.returns
unfolding dist2_of
returns c = refl
