-- `raised`: it stops where the half step up is not below the root, which it is not at 2 ^ 53. Assumes nothing.
use native.Mathlib.Omega.{arith}
use Rattle.color_root.proofs.Cubes.{le-top, end-high}
use Rattle.color_root.proofs.cube_root.raised.Goals as goal

pub returns-then-n-cube_top : goal.returns-then-n-cube_top
returns-then-n-cube_top c = (omega arith, omega arith, le-top _ _ (omega arith))

pub returns : goal.returns
returns c = (omega arith, omega arith, end-high _ 0x20_0000_0000_0000 (omega arith) (omega arith))
