-- `write::low_place` meets its contract: of the width three bytes count. Assumes nothing.
use Prim.Native.Nat.{◌*◌, ◌^◌, ◌%◌, ◌<◌}
use native.Mathlib.Omega.{arith}
use Rattle.edit.specs.Change.{unpacked, place}
use Rattle.journal_write.proofs.Changes.{low-place, low_fits}
use Rattle.journal_write.proofs.write.low_place.Goals as goal
use Rattle.journal_write.proofs.write.low_place.Goals.{After-row-y}

-- either part is of 16 bits
fits : (c : After-row-y) → let m = c.args.w % 2 ^ 24 in let x = c.column-x.result in let y = c.row-y.result in
    ((x < 2 ^ 16) × (x * m < 2 ^ 48)) × ((y < 2 ^ 16) × (y * m < 2 ^ 48))
unfolding unpacked
fits c =
    let w = c.args.w in
    let x : c.column-x.result < 2 ^ 16 = omega (arith, c.column-x.ensures) in
    let y : c.row-y.result < 2 ^ 16 = omega (arith, c.row-y.ensures) in
    ((x, low_fits w x), (y, low_fits w y))

pub overflow_mul-result : goal.overflow_mul-result
overflow_mul-result c = omega (arith, fits c)

pub overflow_add-result : goal.overflow_add-result
overflow_add-result c = omega (arith, fits c)

pub returns : goal.returns
unfolding place
returns c = rw (c.column-x.ensures, c.row-y.ensures) (low-place _ _ _)
