-- `same_row`: the first x indices compared. Assumes nothing.
use mathlib.Core.Bool.{false}
use mathlib.Core.List.{map}
use mathlib.Core.Path.{◌≡◌}
use Rattle.base.specs.Lists.{range}
use Rattle.tile_cells.specs.Seen.{in_row}
use Rattle.tile_cells.specs.Tile.{same_tile}
use Rattle.tile_cells.proofs.alike.same_row.Given as goal

abbrev pub invariant-loop-x : goal.invariant-loop-x
invariant-loop-x l = l.all ≡ same_tile (map (in_row l.src l.p l.t l.fh) (range 0 l.x)) (map (in_row l.src l.q l.t false) (range 0 l.x))
