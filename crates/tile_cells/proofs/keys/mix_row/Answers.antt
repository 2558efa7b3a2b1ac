-- `mix_row`: the first x indices of a row. Assumes nothing.
use mathlib.Core.Path.{◌≡◌, refl}
use Prim.Native.Nat.{◌+◌}
use native.Mathlib.Omega.{arith}
use borrow.Author.Rules.{rules}
use lib.IntN.{pos}
use lib.ListN.{get_or}
use mir.Syntax.{w16}
use mir.Val.{SFits}
use mir.Facts.{to_z-of_z}
use Rattle.base.specs.Lists.{range}
use Rattle.tile_cells.specs.Seen.{in_row, row_seen}
use Rattle.tile_cells.specs.Key.{mixed_all}
use Rattle.tile_cells.proofs.Lying.{in-row}
use Rattle.tile_cells.proofs.Mixing.{mixed-next}
use Rattle.tile_cells.proofs.keys.mix_row.Goals as goal

pub loop-x-init : goal.loop-x-init
unfolding mixed_all range
loop-x-init c = (refl, search rules)

pub loop-x-preserved : goal.loop-x-preserved
loop-x-preserved c =
    let a = c.args in
    let p : SFits w16 (get_or a.src.now (a.at + c.turn.result) (pos 0)) = search rules in
    (mixed-next a.n (in_row a.src.now a.at a.t a.fh) c.loop-x.x c.loop-x.invariant.0 c.mix-n.ensures.0 (in-row a.src.now a.at a.t a.fh c.loop-x.x (to_z-of_z p) c.turn.ensures.0), c.mix-n.ensures.1)

pub returns : goal.returns
unfolding row_seen
returns c = let e : c.loop-x.x ≡ c.args.t = omega arith in (rw e at c.loop-x.invariant.0, c.loop-x.invariant.1)
