-- `squared`: each product of two digits is bounded once, and the carries give the digits. Assumes nothing.
use Prim.Native.Nat.{ℕ, ◌*◌, ◌/◌, ◌%◌, ◌^◌, ◌≤◌}
use native.Mathlib.Nat.{mul-le-mul}
use native.Mathlib.Omega.{arith}
use Rattle.color_root.proofs.Cubes.{square-digits}
use Rattle.color_root.proofs.cube_root.squared.Goals as goal

record Bounds (a b : ℕ) : Type 0 where
  aa : a * a ≤ 0xfff_ffff * 0xfff_ffff
  ab : a * b ≤ 0xfff_ffff * 0x1000_0000
  bb : b * b ≤ 0x1000_0000 * 0x1000_0000

bounds : (q : ℕ) → q ≤ 2 ^ 56 → Bounds (q % 0x1000_0000) (q / 0x1000_0000)
bounds q h =
    let a : q % 0x1000_0000 ≤ 0xfff_ffff = omega arith in
    let b : q / 0x1000_0000 ≤ 0x1000_0000 = omega arith in
    record { aa = mul-le-mul a a; ab = mul-le-mul a b; bb = mul-le-mul b b }

pub overflow_mul-p0 : goal.overflow_mul-p0
overflow_mul-p0 c = let b = bounds _ c.requires in omega arith

pub overflow_mul-p1 : goal.overflow_mul-p1
overflow_mul-p1 c = let b = bounds _ c.requires in omega arith

pub overflow_mul-p1-2 : goal.overflow_mul-p1-2
overflow_mul-p1-2 c = let b = bounds _ c.requires in omega arith

pub overflow_add-p1 : goal.overflow_add-p1
overflow_add-p1 c = let b = bounds _ c.requires in omega arith

pub overflow_mul-p2 : goal.overflow_mul-p2
overflow_mul-p2 c = let b = bounds _ c.requires in omega arith

pub overflow_add-p2 : goal.overflow_add-p2
overflow_add-p2 c = let b = bounds _ c.requires in omega arith

pub returns : goal.returns
returns c =
    let b = bounds _ c.requires in
    record { whole = square-digits c.args.q; low0 = omega arith; low1 = omega arith; low2 = omega arith; low3 = omega arith }
