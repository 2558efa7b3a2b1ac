-- `start`: the cells below c are placed. Assumes nothing.
use Rattle.tile_classes.proofs.Pixels.{Started}
use Rattle.tile_classes.proofs.rounds.start.Given as goal

abbrev pub invariant-loop-c : goal.invariant-loop-c
invariant-loop-c l = Started l.w l.t l.indices l.initial.s l.s l.c
