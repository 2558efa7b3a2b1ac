-- `compare_rows`: the first x indices are the same. Assumes nothing.
use mathlib.Core.List.{map}
use mathlib.Core.Path.{◌≡◌}
use Rattle.base.specs.Lists.{range}
use Rattle.tile_cells.specs.Seen.{in_row}
use Rattle.tile_least.specs.Least.{compared}
use Rattle.tile_least.proofs.least.compare_rows.Given as goal

abbrev pub invariant-loop-x : goal.invariant-loop-x
invariant-loop-x l = compared (map (in_row l.src l.p l.t l.ph) (range 0 l.x)) (map (in_row l.src l.q l.t l.qh) (range 0 l.x)) ≡ 0
