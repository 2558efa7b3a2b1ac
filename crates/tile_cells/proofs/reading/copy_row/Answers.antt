-- `copy_row`: x indices so far. Assumes nothing.
use Prim.Native.Nat.{◌+◌}
use native.Mathlib.Omega.{arith}
use borrow.Author.Rules.{rules}
use lib.IntN.{pos}
use lib.ListN.{get_or}
use mir.Syntax.{w16}
use mir.Val.{SFits}
use mir.Facts.{to_z-of_z}
use Rattle.tile_cells.specs.Seen.{row_seen}
use Rattle.tile_cells.proofs.Lying.{in-row}
use Rattle.tile_cells.proofs.Rows.{row-none, row_next, row-all}
use Rattle.tile_cells.proofs.reading.copy_row.Goals as goal

pub loop-x-init : goal.loop-x-init
loop-x-init c = row-none _ _

pub loop-x-preserved : goal.loop-x-preserved
loop-x-preserved c =
    let a = c.args in
    let p : SFits w16 (get_or a.src.now (a.at + c.turn.result) (pos 0)) = search rules in
    row_next _ c.loop-x.invariant (omega arith) _ (in-row a.src.now a.at a.t a.fh c.loop-x.x (to_z-of_z p) c.turn.ensures.0)

pub returns : goal.returns
unfolding row_seen
returns c = row-all _ c.loop-x.invariant _ c.loop-x.auto.x-end c.loop-x-test.false
