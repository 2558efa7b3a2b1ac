-- `order_in`: the lower part of a place. Assumes nothing.
use mathlib.Core.Path.{refl}
use native.Mathlib.Omega.{arith}
use Rattle.tile_classes.specs.Places.{order_in}
use Rattle.tile_classes.proofs.rounds.order_in.Goals as goal

pub returns : goal.returns
unfolding order_in
returns c = (refl, omega arith)
