-- `key`: the numbers of the four flips. Assumes nothing.
use native.Mathlib.Omega.{arith}
use Rattle.tile_cells.proofs.Flipping.{key-seen}
use Rattle.tile_cells.proofs.keys.key.Goals as goal

pub returns : goal.returns
returns c = let a = c.args in (key-seen a.t a.src.now a.corner a.stride c.number-none.ensures.0 c.number-h.ensures.0 c.number-v.ensures.0 c.number-both.ensures.0, omega arith)
