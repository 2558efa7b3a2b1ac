-- `mix`: one index. Assumes nothing.
use native.Mathlib.Omega.{arith}
use mir.Syntax.{w16}
use mir.Val.{of_z}
use Rattle.base.proofs.Back.{by_value}
use Rattle.tile_cells.specs.Key.{mixed}
use Rattle.tile_cells.proofs.keys.mix.Goals as goal

pub returns : goal.returns
unfolding mixed
returns c = (rw (by_value (of_z w16) c.ranges.z c.bits_of.ensures), omega arith)
