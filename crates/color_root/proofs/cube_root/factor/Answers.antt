-- `factor`: each choice is the power. Assumes nothing.
use mathlib.Core.Path.{◌≡◌}
use Prim.Native.Nat.{ℕ, ◌^◌, ◌≤◌}
use native.Mathlib.Omega.{arith}
use Rattle.color_root.proofs.cube_root.factor.Goals as goal

power : (i n : ℕ) → i ≡ n → 1 ≤ 2 ^ n → 2 ^ n ≤ 4 → (2 ^ n ≡ 2 ^ i) × (1 ≤ 2 ^ n) × (2 ^ n ≤ 4)
power i n e h k = (rw e, h, k)

pub returns-then-i-eq0 : goal.returns-then-i-eq0
returns-then-i-eq0 c = power _ 0 (omega arith) (omega arith) (omega arith)

pub returns-then-i-eq1 : goal.returns-then-i-eq1
returns-then-i-eq1 c = power _ 1 (omega arith) (omega arith) (omega arith)

pub returns-else-i-eq1 : goal.returns-else-i-eq1
returns-else-i-eq1 c = power _ 2 (omega arith) (omega arith) (omega arith)
