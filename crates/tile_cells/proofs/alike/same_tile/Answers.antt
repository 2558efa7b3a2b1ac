-- `same_tile`: the first y rows are the same. Assumes nothing.
use mathlib.Core.List.{flat_map}
use mathlib.Core.Path.{◌≡◌, refl, sym}
use native.Mathlib.Omega.{arith}
use Rattle.base.specs.Lists.{range}
use Rattle.tile_cells.specs.Seen.{tile_seen}
use Rattle.tile_cells.specs.Tile.{same_tile}
use Rattle.tile_cells.proofs.Lying.{row_same, row-differs}
use Rattle.tile_cells.proofs.alike.same_tile.Goals as goal
use Rattle.tile_cells.proofs.alike.same_tile.Goals.{After-turn, In-loop-y}

pub loop-y-init : goal.loop-y-init
unfolding same_tile range flat_map
loop-y-init c = refl

pub returns-then-not-same_row : goal.returns-then-not-same_row
returns-then-not-same_row c = let a = c.args in row-differs a.src.now a.p a.q a.stride a.t a.fh a.fv c.loop-y.y c.same_row.ensures c.turn.ensures.0 (c.if-not-same_row.true) c.loop-y-test.true

pub loop-y-preserved : goal.loop-y-preserved
loop-y-preserved c = let a = c.args in row_same a.src.now a.p a.q a.stride a.t a.fh a.fv c.loop-y.y c.same_row.ensures c.turn.ensures.0 (c.if-not-same_row.false) c.loop-y.invariant

pub returns : goal.returns
unfolding tile_seen
returns c = let e : c.loop-y.y ≡ c.args.t = omega arith in sym (rw e at c.loop-y.invariant)
