-- `bucket`: the key of the cell where it lies. Assumes nothing.
use native.Mathlib.Omega.{arith}
use Rattle.tile_cells.proofs.Corners.{fits, corner-small, corner-lies, count_small, area}
use Rattle.tile_chain.proofs.Chains.{bucket-is}
use Rattle.tile_chain.proofs.bucket.Goals as goal

pub corner_of-requires : goal.corner_of-requires
corner_of-requires c = let d = c.requires.0 in let b = c.requires.1 in (d.side, fits d b, corner-small d b)

pub key-requires : goal.key-requires
key-requires c = rw c.corner_of.ensures (corner-lies c.requires.0 c.requires.1)

pub scale-requires : goal.scale-requires
scale-requires c = let d = c.requires.0 in (c.key.ensures.1, omega (arith, c.requires.1, c.requires.2), omega (arith, c.requires.2, count_small d, area d))

pub returns : goal.returns
returns c = let a = c.args in (bucket-is a.w a.t a.indices.now _ a.c c.corner_of.ensures c.key.ensures.0 c.requires.2 c.scale.ensures.0, rw c.requires.2 at c.scale.ensures.1)
