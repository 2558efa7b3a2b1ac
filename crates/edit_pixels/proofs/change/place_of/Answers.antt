-- `place_of`: the code is the definition. Assumes nothing.
use mathlib.Core.Path.{◌≡◌, ap}
use Prim.Native.Nat.{ℕ, ◌*◌}
use native.Mathlib.Omega.{arith}
use Rattle.edit.specs.Change.{unpacked, place}
use Rattle.edit_pixels.proofs.change.place_of.Goals as goal
use Rattle.edit_pixels.proofs.change.place_of.Goals.{After-row-y}

-- what stands in the rows above
rows : (c : After-row-y) → let a = c.args in c.row-y.result * a.w ≡ (unpacked a.c).y * a.w
rows c = ap (λ (y : ℕ). y * c.args.w) c.row-y.ensures

pub overflow_mul-result : goal.overflow_mul-result
unfolding place
overflow_mul-result c = omega (arith, rows c)

pub overflow_add-result : goal.overflow_add-result
unfolding place
overflow_add-result c = omega (arith, rows c)

pub returns : goal.returns
unfolding place
returns c = cc
