-- `mix_row`: the first x indices of a row. Assumes nothing.
use mathlib.Core.List.{map}
use mathlib.Core.Path.{◌≡◌}
use Prim.Native.Nat.{◌<◌, ◌^◌}
use Rattle.base.specs.Lists.{range}
use Rattle.tile_cells.specs.Seen.{in_row}
use Rattle.tile_cells.specs.Key.{mixed_all}
use Rattle.tile_cells.proofs.keys.mix_row.Given as goal

abbrev pub invariant-loop-x : goal.invariant-loop-x
invariant-loop-x l = (l.n ≡ mixed_all l.n-2 (map (in_row l.src l.at l.t l.fh) (range 0 l.x))) × (l.n < 2 ^ 32)
