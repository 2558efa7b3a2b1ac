-- `compare_flips`: the first y rows are the same. Assumes nothing.
use mathlib.Core.List.{flat_map}
use mathlib.Core.Path.{◌≡◌}
use Rattle.base.specs.Lists.{range}
use Rattle.tile_cells.specs.Seen.{row_of}
use Rattle.tile_least.specs.Least.{compared}
use Rattle.tile_least.proofs.least.compare_flips.Given as goal

abbrev pub invariant-loop-y : goal.invariant-loop-y
invariant-loop-y l = compared (flat_map (row_of l.src l.corner l.stride l.t l.ph l.pv) (range 0 l.y)) (flat_map (row_of l.src l.corner l.stride l.t l.qh l.qv) (range 0 l.y)) ≡ 0
