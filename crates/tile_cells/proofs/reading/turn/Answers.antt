-- `turn`: from either side. Assumes nothing.
use mathlib.Core.Path.{refl}
use native.Mathlib.Omega.{arith}
use Rattle.tile_cells.specs.Tile.{turned}
use Rattle.tile_cells.proofs.reading.turn.Goals as goal

pub returns-then-flip : goal.returns-then-flip
unfolding turned
returns-then-flip c = rw c.if-flip.true (refl, omega arith)

pub returns-else-flip : goal.returns-else-flip
unfolding turned
returns-else-flip c = rw c.if-flip.false (refl, omega arith)
