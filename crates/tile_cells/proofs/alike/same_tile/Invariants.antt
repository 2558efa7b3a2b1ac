-- `same_tile`: the first y rows are the same. Assumes nothing.
use mathlib.Core.Bool.{true, false}
use mathlib.Core.List.{flat_map}
use mathlib.Core.Path.{◌≡◌}
use Rattle.base.specs.Lists.{range}
use Rattle.tile_cells.specs.Seen.{row_of}
use Rattle.tile_cells.specs.Tile.{same_tile}
use Rattle.tile_cells.proofs.alike.same_tile.Given as goal

abbrev pub invariant-loop-y : goal.invariant-loop-y
invariant-loop-y l = same_tile (flat_map (row_of l.src l.p l.stride l.t l.fh l.fv) (range 0 l.y)) (flat_map (row_of l.src l.q l.stride l.t false false) (range 0 l.y)) ≡ true
