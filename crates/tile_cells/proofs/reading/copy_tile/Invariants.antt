-- `copy_tile`: y rows so far. Assumes nothing.
use Rattle.tile_cells.specs.Seen.{row_of}
use Rattle.tile_cells.proofs.Rows.{Rows}
use Rattle.tile_cells.proofs.reading.copy_tile.Given as goal

abbrev pub invariant-loop-y : goal.invariant-loop-y
invariant-loop-y l = Rows (row_of l.src l.corner l.stride l.t l.fh l.fv) l.initial.out l.out l.y
