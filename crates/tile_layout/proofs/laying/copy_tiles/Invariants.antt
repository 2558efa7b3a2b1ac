-- `copy_tiles`: the first cells below c are copied. Assumes nothing.
use Rattle.tile_layout.proofs.Laid.{Copying}
use Rattle.tile_layout.proofs.laying.copy_tiles.Given as goal

abbrev pub invariant-loop-c : goal.invariant-loop-c
invariant-loop-c l = Copying l.w l.h l.t l.indices l.initial.tiles l.tiles l.k l.c
