-- `tell_apart`: told apart by the pixels below p. Assumes nothing.
use Rattle.tile_classes.specs.Pixels.{Told}
use Rattle.tile_classes.proofs.rounds.tell_apart.Given as goal

abbrev pub invariant-loop-p : goal.invariant-loop-p
invariant-loop-p l = Told l.w l.t l.indices l.n l.p l.s
