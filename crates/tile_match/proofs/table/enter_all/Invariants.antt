-- `enter_all`: the cells below c are entered. Assumes nothing.
use Rattle.tile_cells.specs.Cells.{cell_count}
use Rattle.tile_chain.specs.Table.{Chained}
use Rattle.tile_match.proofs.table.enter_all.Given as goal

abbrev pub invariant-loop-c : goal.invariant-loop-c
invariant-loop-c l = Chained l.w l.t l.indices (cell_count l.w l.h l.t) l.c l.s
