-- `place`: the cell where it lies. Assumes nothing.
use Rattle.tile_cells.proofs.Corners.{fits, corner-small, corner-lies}
use Rattle.tile_classes.proofs.Pixels.{order_least}
use Rattle.tile_classes.proofs.rounds.place.Goals as goal

pub corner_of-requires : goal.corner_of-requires
corner_of-requires c = let d = c.requires.0 in let b = c.requires.1 in (d.side, fits d b, corner-small d b)

pub least_order-requires : goal.least_order-requires
least_order-requires c = rw c.corner_of.ensures (corner-lies c.requires.0 c.requires.1)

pub returns : goal.returns
returns c =
    let a = c.args in
    order_least a.w a.t a.indices.now a.c _ c.corner_of.ensures c.least_order.ensures.1 c.least_order.ensures.0
