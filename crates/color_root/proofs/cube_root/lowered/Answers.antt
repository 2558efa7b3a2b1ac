-- `lowered`: it stops where the half step down is below the root, which it is at 2 ^ 52. Assumes nothing.
use mathlib.Core.Path.{◌≡◌}
use Prim.Native.Nat.{◌+◌, ◌-◌, ◌*◌}
use native.Mathlib.Nat.{le_trans}
use native.Mathlib.Omega.{arith}
use Rattle.color_root.proofs.Cubes.{le-top, top_lt, end_low, cube-mono}
use Rattle.color_root.proofs.cube_root.lowered.Goals as goal

pub returns-then-cube_top-n : goal.returns-then-cube_top-n
returns-then-cube_top-n c =
    let m = c.loop-m.m in
    let here : m - 1 + 1 ≡ m = omega arith in
    let down : 2 * m - 1 ≡ 2 * (m - 1) + 1 = omega arith in
    rw here (record { low = omega arith; high = omega arith; below = rw down (top_lt _ _ (omega arith)); above = c.loop-m.invariant })

pub loop-m-preserved : goal.loop-m-preserved
loop-m-preserved c = le-top _ _ (omega arith)

pub returns : goal.returns
returns c =
    record {
      low = omega arith;
      high = omega arith;
      below = end_low _ 0x10_0000_0000_0000 (omega arith) (omega arith);
      above = le_trans c.loop-m.invariant (cube-mono (2 * c.loop-m.m + 1) (2 * 0x10_0000_0000_0000 + 1) (omega arith));
    }
