-- `cell_of`: at most the place. Assumes nothing.
use Prim.Native.Nat.{◌+◌, ◌*◌, ◌/◌, ◌%◌, ◌≤◌}
use mathlib.Core.Path.{refl}
use native.Mathlib.Omega.{arith}
use Rattle.tile_marks.specs.Cell.{cell_at}
use Rattle.tile_marks.proofs.Spreading.{cell-le}
use borrow.Author.Rules.{rules}
use Rattle.tile_marks.proofs.classes.cell_of.Goals as goal
use Rattle.tile_marks.proofs.classes.cell_of.Goals.{Start}

sums : (c : Start) → let a = c.args in a.p / a.w / a.t * (a.w / a.t) + a.p % a.w / a.t ≤ a.p
unfolding cell_at
sums c = cell-le c.args.w c.args.t c.args.p

pub overflow_mul-result : goal.overflow_mul-result
overflow_mul-result c = record { fits = omega (arith, sums c) }

pub overflow_add-result : goal.overflow_add-result
overflow_add-result c = record { fits = omega (arith, sums c) }

pub returns : goal.returns
unfolding cell_at
returns c = (refl, sums c)
