-- `number_all`: the cells below c are numbered. Assumes nothing.
use Rattle.tile_least.specs.Least.{Digit}
use Rattle.tile_classes.specs.Classes.{Numbered}
use Rattle.tile_classes.specs.Pixels.{pixel_of}
use Rattle.tile_classes.proofs.rounds.number_all.Given as goal

abbrev pub invariant-loop-c : goal.invariant-loop-c
invariant-loop-c l = Numbered Digit l.n (λ c. pixel_of l.w l.t l.indices c l.p) l.initial.s l.s l.c
