-- `cube_top`: each product of two digits is bounded once, and the carries give the cube's upper part. Assumes nothing.
use Prim.Native.Nat.{ℕ, ◌*◌, ◌+◌, ◌/◌, ◌%◌, ◌^◌, ◌≤◌}
use native.Mathlib.Nat.{mul-le-mul}
use native.Mathlib.Omega.{arith}
use mir.Syntax.{w64}
use mir.Val.{Fits}
use Rattle.color_root.specs.Cubes.{Digits}
use Rattle.color_root.proofs.Cubes.{cube-digits}
use Rattle.color_root.proofs.cube_root.cube_top.Goals as goal
use Rattle.color_root.proofs.cube_root.cube_top.Goals.{After-squared-s}

record Bounds (a b s0 s1 s2 s3 : ℕ) : Type 0 where
  m00 : a * s0 ≤ 2 ^ 56
  m01 : a * s1 ≤ 2 ^ 56
  m02 : a * s2 ≤ 2 ^ 56
  m03 : a * s3 ≤ 2 ^ 57
  m10 : b * s0 ≤ 2 ^ 56
  m11 : b * s1 ≤ 2 ^ 56
  m12 : b * s2 ≤ 2 ^ 56
  m13 : b * s3 ≤ 2 ^ 57

bounds : (q s0 s1 s2 s3 : ℕ) → q ≤ 2 ^ 56 → Digits q s0 s1 s2 s3 → Bounds (q % 0x1000_0000) (q / 0x1000_0000) s0 s1 s2 s3
bounds q s0 s1 s2 s3 h d =
    let a : q % 0x1000_0000 ≤ 2 ^ 28 = omega arith in
    let b : q / 0x1000_0000 ≤ 2 ^ 28 = omega arith in
    let t0 : s0 ≤ 2 ^ 28 = omega arith in
    let t1 : s1 ≤ 2 ^ 28 = omega arith in
    let t2 : s2 ≤ 2 ^ 28 = omega arith in
    let t3 : s3 ≤ 2 ^ 29 = omega arith in
    record {
      m00 = mul-le-mul a t0;
      m01 = mul-le-mul a t1;
      m02 = mul-le-mul a t2;
      m03 = mul-le-mul a t3;
      m10 = mul-le-mul b t0;
      m11 = mul-le-mul b t1;
      m12 = mul-le-mul b t2;
      m13 = mul-le-mul b t3;
    }

-- the bounds at the call's result
at : (c : After-squared-s) → Bounds (c.before.args.q % 0x1000_0000) (c.before.args.q / 0x1000_0000) c.squared-s.result.s0 c.squared-s.result.s1 c.squared-s.result.s2 c.squared-s.result.s3
at c = bounds c.before.args.q _ _ _ _ c.before.requires c.squared-s.ensures

-- a place's sum, and its carry, as numbers of their own: with the carries written out, `omega` meets numbers of more than 38 digits
sum3 : (u v w : ℕ) → u ≤ 2 ^ 57 → v ≤ 2 ^ 56 → w ≤ 2 ^ 30 → u + v + w ≤ 2 ^ 58
sum3 u v w h k l = omega arith

carried : (x : ℕ) → x ≤ 2 ^ 58 → x / 0x1000_0000 ≤ 2 ^ 30
carried x h = omega arith

small : (x : ℕ) → x ≤ 2 ^ 56 → x ≤ 2 ^ 57
small x h = omega arith

fits58 : (x : ℕ) → x ≤ 2 ^ 58 → Fits w64 x
fits58 x h = omega arith

fits-end : (x y : ℕ) → x ≤ 2 ^ 58 → y ≤ 2 ^ 57 → Fits w64 (x / 0x80_0000 + y * 32)
fits-end x y h k = omega arith

third : (a b s0 s1 s2 s3 : ℕ) → Bounds a b s0 s1 s2 s3
    → a * s3 + b * s2 + (a * s2 + b * s1 + (a * s1 + b * s0 + a * s0 / 0x1000_0000) / 0x1000_0000) / 0x1000_0000 ≤ 2 ^ 58
third a b s0 s1 s2 s3 m =
    sum3 (a * s3) (b * s2) _ m.m03 m.m12
    (carried _ (sum3 (a * s2) (b * s1) _ (small _ m.m02) m.m11 (carried _ (sum3 (a * s1) (b * s0) _ (small _ m.m01) m.m10 (carried _ (omega (arith, m.m00)))))))

pub overflow_mul-c0 : goal.overflow_mul-c0
overflow_mul-c0 c = let b = at c in omega arith

pub overflow_mul-c1 : goal.overflow_mul-c1
overflow_mul-c1 c = let b = at c in omega arith

pub overflow_mul-c1-2 : goal.overflow_mul-c1-2
overflow_mul-c1-2 c = let b = at c in omega arith

pub overflow_add-c1 : goal.overflow_add-c1
overflow_add-c1 c = let b = at c in omega arith

pub overflow_add-c1-2 : goal.overflow_add-c1-2
overflow_add-c1-2 c = let b = at c in omega arith

pub overflow_mul-c2 : goal.overflow_mul-c2
overflow_mul-c2 c = let b = at c in omega arith

pub overflow_mul-c2-2 : goal.overflow_mul-c2-2
overflow_mul-c2-2 c = let b = at c in omega arith

pub overflow_add-c2 : goal.overflow_add-c2
overflow_add-c2 c = let b = at c in omega arith

pub overflow_add-c2-2 : goal.overflow_add-c2-2
overflow_add-c2-2 c = let b = at c in omega arith

pub overflow_mul-c3 : goal.overflow_mul-c3
overflow_mul-c3 c = let b = at c in omega arith

pub overflow_mul-c3-2 : goal.overflow_mul-c3-2
overflow_mul-c3-2 c = let b = at c in omega arith

pub overflow_add-c3 : goal.overflow_add-c3
overflow_add-c3 c = let b = at c in omega arith

pub overflow_add-c3-2 : goal.overflow_add-c3-2
overflow_add-c3-2 c = fits58 _ (third _ _ _ _ _ _ (at c))

pub overflow_mul-result : goal.overflow_mul-result
overflow_mul-result c = let b = at c in omega arith

pub overflow_mul-result-2 : goal.overflow_mul-result-2
overflow_mul-result-2 c = let b = at c in omega arith

pub overflow_add-result : goal.overflow_add-result
overflow_add-result c = fits-end _ _ (third _ _ _ _ _ _ (at c)) (at c).m13

pub returns : goal.returns
returns c = cube-digits c.args.q _ _ _ _ c.squared-s.ensures
