-- `number`: the first y rows. Assumes nothing.
use mathlib.Core.List.{flat_map}
use mathlib.Core.Path.{◌≡◌, refl}
use native.Mathlib.Omega.{arith}
use Rattle.base.specs.Lists.{range}
use Rattle.tile_cells.specs.Seen.{row_of, tile_seen}
use Rattle.tile_cells.specs.Key.{mixed_all, number_of}
use Rattle.tile_cells.proofs.Lying.{mixed-row-of}
use Rattle.tile_cells.proofs.Mixing.{mixed-rows}
use Rattle.tile_cells.proofs.keys.number.Goals as goal
use Rattle.tile_cells.proofs.keys.number.Goals.{After-turn}

pub loop-y-init : goal.loop-y-init
unfolding mixed_all range flat_map
loop-y-init c = (refl, omega arith)

pub loop-y-preserved : goal.loop-y-preserved
loop-y-preserved c = let a = c.args in (mixed-rows 7 (row_of a.src.now a.corner a.stride a.t a.fh a.fv) c.loop-y.y c.loop-y.invariant.0 (mixed-row-of a.src.now a.corner a.stride a.t a.fh a.fv c.loop-y.y _ c.mix_row-n.ensures.0 c.turn.ensures.0), c.mix_row-n.ensures.1)

pub returns : goal.returns
unfolding number_of tile_seen
returns c = let e : c.loop-y.y ≡ c.args.t = omega arith in let m = rw e at c.loop-y.invariant.0 in (rw (← m), omega arith)
