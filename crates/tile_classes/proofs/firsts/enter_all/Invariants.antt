-- `enter_all`: the cells below c are entered. Assumes nothing.
use Rattle.tile_classes.specs.Firsts.{Entered}
use Rattle.tile_classes.proofs.firsts.enter_all.Given as goal

abbrev pub invariant-loop-c : goal.invariant-loop-c
invariant-loop-c l = Entered l.w l.t l.indices l.n l.c l.s
