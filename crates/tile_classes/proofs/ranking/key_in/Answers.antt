-- `key_in`: the upper part of a number. Assumes nothing.
use mathlib.Core.Path.{refl}
use Rattle.tile_classes.specs.Places.{key_in}
use Rattle.tile_classes.proofs.ranking.key_in.Goals as goal

pub returns : goal.returns
unfolding key_in
returns c = refl
