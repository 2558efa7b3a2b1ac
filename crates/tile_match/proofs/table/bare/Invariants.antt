-- `bare`: the places so far. Assumes nothing.
use lib.ListN.{get_or}
use Rattle.tile_chain.specs.Table.{found_in}
use Rattle.tile_cells.proofs.Rows.{Row}
use Rattle.tile_match.proofs.table.bare.Given as goal

abbrev pub invariant-loop-v : goal.invariant-loop-v
invariant-loop-v l = Row (λ i. found_in (get_or l.initial.s i 0)) l.initial.s l.s l.v-index
