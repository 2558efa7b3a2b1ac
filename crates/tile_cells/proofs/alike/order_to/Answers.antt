-- `order_to`: the four flips, one after the other. Assumes nothing.
use Rattle.tile_cells.proofs.Orders.{order-0, order-1, order-2, order-3, order-4}
use Rattle.tile_cells.proofs.alike.order_to.Goals as goal

pub returns-then-same_tile : goal.returns-then-same_tile
returns-then-same_tile c = let a = c.args in order-0 a.src.now a.p a.q a.stride a.t c.same_tile.ensures c.if-same_tile.true

pub returns-then-same_tile-2 : goal.returns-then-same_tile-2
returns-then-same_tile-2 c = let a = c.args in order-1 a.src.now a.p a.q a.stride a.t c.same_tile.ensures c.if-same_tile.false c.same_tile-2.ensures c.if-same_tile-2.true

pub returns-then-same_tile-3 : goal.returns-then-same_tile-3
returns-then-same_tile-3 c = let a = c.args in order-2 a.src.now a.p a.q a.stride a.t c.same_tile.ensures c.if-same_tile.false c.same_tile-2.ensures c.if-same_tile-2.false c.same_tile-3.ensures c.if-same_tile-3.true

pub returns-then-same_tile-4 : goal.returns-then-same_tile-4
returns-then-same_tile-4 c = let a = c.args in order-3 a.src.now a.p a.q a.stride a.t c.same_tile.ensures c.if-same_tile.false c.same_tile-2.ensures c.if-same_tile-2.false c.same_tile-3.ensures c.if-same_tile-3.false c.same_tile-4.ensures c.if-same_tile-4.true

pub returns : goal.returns
returns c = let a = c.args in order-4 a.src.now a.p a.q a.stride a.t c.same_tile.ensures c.if-same_tile.false c.same_tile-2.ensures c.if-same_tile-2.false c.same_tile-3.ensures c.if-same_tile-3.false c.same_tile-4.ensures c.if-same_tile-4.false
