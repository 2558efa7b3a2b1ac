-- `scaled`: a factor from 1 to 4 keeps the product small. Assumes nothing.
use mathlib.Core.Path.{ap}
use Prim.Native.Nat.{ℕ, ◌*◌, ◌≤◌}
use native.Mathlib.Omega.{arith}
use native.Mathlib.Nat.{mul-le-mul}
use Rattle.color_root.proofs.cube_root.scaled.Goals as goal

same : (m : ℕ) → m ≤ m
same m = omega arith

between : (m f : ℕ) → 1 ≤ f → f ≤ 4 → (m ≤ m * f) × (m * f ≤ 4 * m)
between m f h k = (omega (arith, mul-le-mul (same m) h), omega (arith, mul-le-mul (same m) k))

pub overflow_mul-result : goal.overflow_mul-result
overflow_mul-result c = omega (arith, between c.args.m c.factor.result c.factor.ensures.1 c.factor.ensures.2)

pub returns : goal.returns
returns c =
    let b = between c.args.m c.factor.result c.factor.ensures.1 c.factor.ensures.2 in
    (ap (λ (f : ℕ). c.args.m * f) c.factor.ensures.0, b.0, b.1)
