-- `digit`: the place by its row and column. Assumes nothing.
use Prim.Native.Nat.{◌<◌}
use borrow.Author.Rules.{rules}
use Rattle.tile_cells.proofs.Corners.{right_positive}
use Rattle.tile_least.proofs.Seeing.{index_at}
use Rattle.tile_least.proofs.Bits.{digit-is}
use Rattle.tile_least.proofs.digits.digit.Goals as goal
use Rattle.tile_least.proofs.digits.digit.Goals.{Start}

side : (c : Start) → 0 < c.args.t
side c = right_positive c.args.t c.args.t c.args.p c.requires.2

pub returns : goal.returns
returns c =
    let a = c.args in
    digit-is (search rules) c.bits_of.ensures
    (index_at a.src.now a.corner a.stride a.t a.order a.p (side (goal.at.returns c).Start) c.requires.2 c.requires.1 c.flips_h.ensures c.flips_v.ensures
    c.turn-x.ensures.0 c.turn-y.ensures.0)
