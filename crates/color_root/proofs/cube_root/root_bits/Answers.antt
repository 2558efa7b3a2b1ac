-- `root_bits`: the whole number that `nearest_root` finds is the digits of the nearest double. Assumes nothing.
use mathlib.Core.Path.{subst}
use Prim.Native.Nat.{ℕ}
use native.Mathlib.Omega.{arith}
use Rattle.color_root.specs.Cubes.{NearestRoot}
use Rattle.color_root.proofs.RootPattern.{root-found}
use Rattle.color_root.proofs.cube_root.root_bits.Goals as goal

pub returns : goal.returns
returns c =
    let b = c.args.b in
    let m = c.nearest_root-r.result in
    let n = c.scaled-n.ensures in
    root-found b m (omega arith) (omega arith) (subst (λ (x : ℕ). NearestRoot x m) n.0 c.nearest_root-r.ensures) (omega arith)
