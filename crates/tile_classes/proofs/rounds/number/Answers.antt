-- `number`: the pixel where the cell lies, and the sums. Assumes nothing.
use Prim.Native.Nat.{◌<◌, ◌^◌}
use native.Mathlib.Omega.{arith}
use Rattle.tile_cells.proofs.Corners.{fits, corner-small, corner-lies, count_small, area}
use Rattle.tile_classes.specs.Places.{class_in}
use Rattle.tile_classes.proofs.Pixels.{pixel-digit, number_is}
use Rattle.tile_classes.proofs.rounds.number.Goals as goal
use Rattle.tile_classes.proofs.rounds.number.Goals.{After-digit-d}

few : (c : After-digit-d) → c.args.c < 2 ^ 20
few c = let p = c.requires.tiled in omega (arith, p.1, count_small p.0, area p.0)

pub corner_of-requires : goal.corner_of-requires
corner_of-requires c = let d = c.requires.tiled.0 in let b = c.requires.tiled.1 in (d.side, fits d b, corner-small d b)

pub digit-d-requires : goal.digit-d-requires
digit-d-requires c = let p = c.requires.tiled in (rw c.corner_of.ensures (corner-lies p.0 p.1), c.order_in.ensures.1, p.2)

pub overflow_mul-result : goal.overflow_mul-result
unfolding class_in
overflow_mul-result c = omega (arith, c.requires.v_bound.0)

pub overflow_add-result : goal.overflow_add-result
unfolding class_in
overflow_add-result c = omega (arith, c.requires.v_bound.0, c.digit-d.ensures.small)

pub overflow_add-result-2 : goal.overflow_add-result-2
unfolding class_in
overflow_add-result-2 c = omega (arith, c.requires.v_bound.0, c.digit-d.ensures.small, few c)

pub returns : goal.returns
unfolding class_in
returns c =
    let a = c.args in
    number_is (class_in a.v) c.digit-d.result a.c (few c) (pixel-digit a.w a.t a.indices.now a.c a.p a.v
    c.corner_of.ensures c.order_in.ensures.0 c.requires.v_bound.1 c.digit-d.ensures)
