-- `copy_tile`: y rows so far. Assumes nothing.
use Prim.Native.Nat.{◌+◌, ◌*◌, ◌≤◌}
use native.Mathlib.Omega.{arith}
use lib.ListN.{length}
use Rattle.tile_cells.specs.Seen.{row_of, tile_seen}
use Rattle.tile_cells.proofs.Lying.{length-row-seen, row-of, room}
use Rattle.tile_cells.proofs.Rows.{rows_none, rows_next, rows_all}
use Rattle.tile_cells.proofs.reading.copy_tile.Goals as goal
use Rattle.tile_cells.proofs.reading.copy_tile.Goals.{After-turn, In-loop-y}

behind : (c : In-loop-y) → let a = c.args in c.loop-y.y * a.t + a.t ≤ length a.out.now
behind c = omega (arith, room c.loop-y-test.true)

pub loop-y-init : goal.loop-y-init
loop-y-init c = rows_none _ _

pub loop-y-preserved : goal.loop-y-preserved
loop-y-preserved c = let a = c.args in rows_next (row_of a.src.now a.corner a.stride a.t a.fh a.fv) a.t (λ y. length-row-seen _ _ _ _) c.loop-y.invariant (behind c.before.before.before.before) _ (row-of a.src.now a.corner a.stride a.t a.fh a.fv c.loop-y.y _ c.copy_row.ensures c.turn.ensures.0)

pub returns : goal.returns
unfolding tile_seen
returns c = rows_all _ c.loop-y.invariant _ c.loop-y.auto.y-end c.loop-y-test.false
