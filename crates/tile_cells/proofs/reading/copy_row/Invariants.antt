-- `copy_row`: x indices so far. Assumes nothing.
use Rattle.tile_cells.specs.Seen.{in_row}
use Rattle.tile_cells.proofs.Rows.{Row}
use Rattle.tile_cells.proofs.reading.copy_row.Given as goal

abbrev pub invariant-loop-x : goal.invariant-loop-x
invariant-loop-x l = Row (in_row l.src l.at l.t l.fh) l.initial.out l.out l.x
