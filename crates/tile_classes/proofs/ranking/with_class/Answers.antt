-- `with_class`: the upper part of a place. Assumes nothing.
use native.Mathlib.Omega.{arith}
use Rattle.tile_classes.specs.Places.{class_in, order_in}
use Rattle.tile_classes.proofs.ranking.with_class.Goals as goal

-- src/ranking.rt:24:1

pub returns : goal.returns
unfolding class_in order_in
returns c = (omega arith, omega arith)
