-- `number`: the first y rows. Assumes nothing.
use mathlib.Core.List.{flat_map}
use mathlib.Core.Path.{◌≡◌}
use Prim.Native.Nat.{◌<◌, ◌^◌}
use Rattle.base.specs.Lists.{range}
use Rattle.tile_cells.specs.Seen.{row_of}
use Rattle.tile_cells.specs.Key.{mixed_all}
use Rattle.tile_cells.proofs.keys.number.Given as goal

abbrev pub invariant-loop-y : goal.invariant-loop-y
invariant-loop-y l = (l.n ≡ mixed_all 7 (flat_map (row_of l.src l.corner l.stride l.t l.fh l.fv) (range 0 l.y))) × (l.n < 2 ^ 32)
