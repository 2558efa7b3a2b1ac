-- `cell_in`: the lower part of a number. Assumes nothing.
use mathlib.Core.Path.{refl}
use native.Mathlib.Omega.{arith}
use Rattle.tile_classes.specs.Places.{cell_in}
use Rattle.tile_classes.proofs.ranking.cell_in.Goals as goal

pub returns : goal.returns
unfolding cell_in
returns c = (refl, omega arith)
