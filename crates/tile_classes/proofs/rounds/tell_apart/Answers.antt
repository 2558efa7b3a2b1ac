-- `tell_apart`: told apart by the pixels below p. Assumes nothing.
use Prim.Native.Nat.{◌*◌, ◌≤◌}
use native.Mathlib.Nat.{mul-le-mul}
use native.Mathlib.Omega.{arith}
use Rattle.tile_cells.proofs.Corners.{fits}
use Rattle.tile_classes.proofs.rounds.tell_apart.Goals as goal

pub overflow_mul-p-end : goal.overflow_mul-p-end
overflow_mul-p-end c =
    let q = c.requires in
    let h = fits q.0 (rw q.1 at q.3) in
    let k = q.0.w-small in
    let few : c.args.t * c.args.t ≤ 1024 * 1024 = mul-le-mul {n₂ = 1024} {m₂ = 1024} (omega arith) (omega arith) in
    omega (arith, few)
