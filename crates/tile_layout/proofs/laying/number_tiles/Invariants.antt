-- `number_tiles`: the cells below c are numbered. Assumes nothing.
use Rattle.tile_layout.proofs.Numbered.{Numbering}
use Rattle.tile_layout.proofs.laying.number_tiles.Given as goal

abbrev pub invariant-loop-c : goal.invariant-loop-c
invariant-loop-c l = Numbering l.initial.s l.s l.m l.c
