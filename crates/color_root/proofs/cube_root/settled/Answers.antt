-- `settled`: m³ is known to a unit of 2 ^ 98, which is enough for both half steps where the number is not too near to either. Assumes nothing.
use mathlib.Core.Path.{◌≡◌}
use Prim.Native.Nat.{ℕ, ◌+◌, ◌*◌, ◌/◌, ◌^◌, ◌≤◌, ◌<◌}
use native.Mathlib.Omega.{arith}
use mathlib.Core.Bool.{true, false}
use Rattle.color_root.proofs.Cubes.{top_small, half-square, reach, up-settled, down-settled}
use Rattle.color_root.proofs.cube_root.settled.Goals as goal
use Rattle.color_root.proofs.cube_root.settled.Goals.{After-cube_top-c}

never : {X : Type 0} → false ≡ true → X
never e = let z : ◌≡◌ {A = ℕ} 0 1 = cc in absurd (omega arith)

record Small (m c : ℕ) : Type 0 where
  square : m / 0x400_0000 * (m / 0x400_0000) ≤ 2 ^ 54
  cube : c < 2 ^ 61 + 1

small : (c : After-cube_top-c) → Small c.before.args.m c.cube_top-c.result
small c =
    let t = top_small (8 * c.before.args.m) (omega arith) in
    record { square = half-square _ (omega arith); cube = omega arith }

pub overflow_mul-w : goal.overflow_mul-w
overflow_mul-w c = let s = small c in omega arith

pub overflow_mul-w-2 : goal.overflow_mul-w-2
overflow_mul-w-2 c = let s = small c in omega arith

pub overflow_add-c : goal.overflow_add-c
overflow_add-c c = let s = small c in omega arith

pub overflow_add-c-then-n-c : goal.overflow_add-c-then-n-c
overflow_add-c-then-n-c c = let s = small c.before in omega arith

pub overflow_add-n : goal.overflow_add-n
overflow_add-n c = let s = small c.before in omega arith

pub returns-then-c-n : goal.returns-then-c-n
returns-then-c-n c =
    let m = c.args.m in
    λ e. record { low = omega arith; high = omega arith; below = down-settled _ m _ (reach m) (omega arith) (omega arith) (omega arith); above = up-settled _ m _ (reach m) (omega arith) }

pub returns-else-c-n : goal.returns-else-c-n
returns-else-c-n c = λ e. never e

pub returns-else-n-c : goal.returns-else-n-c
returns-else-n-c c = λ e. never e
