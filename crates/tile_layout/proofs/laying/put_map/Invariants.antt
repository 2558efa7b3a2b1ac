-- `put_map`: i entries so far. Assumes nothing.
use lib.ListN.{get_or}
use Rattle.tile_cells.proofs.Rows.{Rows}
use Rattle.tile_layout.specs.Numbering.{flat_id}
use Rattle.tile_layout.proofs.laying.put_map.Given as goal

abbrev pub invariant-loop-i : goal.invariant-loop-i
invariant-loop-i l = Rows (λ i. flat_id (get_or l.s i 0)) l.initial.map l.map l.i
