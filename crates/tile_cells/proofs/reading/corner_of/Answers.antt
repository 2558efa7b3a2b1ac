-- `corner_of`: the sums that it forms fit. Assumes nothing.
use mathlib.Core.Path.{refl}
use Prim.Native.Nat.{◌*◌, ◌/◌}
use native.Mathlib.Nat.{mul-le-mul_left}
use native.Mathlib.Omega.{arith}
use Rattle.tile_cells.specs.Cells.{corner_of}
use Rattle.tile_cells.proofs.reading.corner_of.Goals as goal
use Rattle.tile_cells.proofs.reading.corner_of.Goals.{Start}

pub overflow_mul-result : goal.overflow_mul-result
unfolding corner_of
overflow_mul-result c = omega (arith, mul-le-mul_left {m = 1} {n = c.args.w} (c.args.c / (c.args.w / c.args.t) * c.args.t) (omega arith))

pub overflow_mul-result-2 : goal.overflow_mul-result-2
unfolding corner_of
overflow_mul-result-2 c = omega arith

pub overflow_add-result : goal.overflow_add-result
unfolding corner_of
overflow_add-result c = omega arith

pub returns : goal.returns
unfolding corner_of
returns c = refl
