-- `class_in`: the upper part of a place. Assumes nothing.
use mathlib.Core.Path.{refl}
use Rattle.tile_classes.specs.Places.{class_in}
use Rattle.tile_classes.proofs.firsts.class_in.Goals as goal

pub returns : goal.returns
unfolding class_in
returns c = refl
