-- `same_row`: the first x indices compared. Assumes nothing.
use mathlib.Core.Bool.{false}
use mathlib.Core.Path.{◌≡◌, refl}
use Prim.Native.Nat.{◌+◌}
use native.Mathlib.Omega.{arith}
use borrow.Author.Rules.{rules}
use lib.IntN.{pos}
use lib.ListN.{get_or}
use mir.Syntax.{w16}
use mir.Val.{SFits}
use Rattle.base.proofs.Back.{eq-back}
use Rattle.base.specs.Lists.{range}
use Rattle.tile_cells.specs.Seen.{in_row, row_seen}
use Rattle.tile_cells.specs.Tile.{turned, same_tile}
use Rattle.tile_cells.proofs.Lying.{in-row}
use Rattle.tile_cells.proofs.Sameness.{same_next}
use Rattle.tile_cells.proofs.alike.same_row.Goals as goal

pub loop-x-init : goal.loop-x-init
unfolding same_tile range
loop-x-init c = refl

pub loop-x-preserved : goal.loop-x-preserved
unfolding turned
loop-x-preserved c =
    let a = c.args in
    let x = c.loop-x.x in
    let p : SFits w16 (get_or a.src.now (a.p + c.turn.result) (pos 0)) = search rules in
    let q : SFits w16 (get_or a.src.now (a.q + x) (pos 0)) = search rules in
    same_next (in_row a.src.now a.p a.t a.fh) (in_row a.src.now a.q a.t false) x c.loop-x.invariant (eq-back p q)
    (in-row a.src.now a.p a.t a.fh x refl c.turn.ensures.0) (in-row a.src.now a.q a.t false x refl refl) c.both-all.ensures

pub returns : goal.returns
unfolding row_seen
returns c = let e : c.loop-x.x ≡ c.args.t = omega arith in rw e at c.loop-x.invariant
