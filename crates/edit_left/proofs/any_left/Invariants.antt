-- `any_left`: no pixel so far is left; the one that ends the scan is. Assumes nothing.
use mathlib.Core.Path.{◌≡◌}
use mathlib.Core.Bool.{false}
use Prim.Native.Nat.{◌+◌, ◌*◌}
use Rattle.edit_left.proofs.Left.{NoneLeft}
use Rattle.edit_left.proofs.any_left.Given as goal

abbrev pub invariant-loop-x : goal.invariant-loop-x
invariant-loop-x l = (l.left ≡ false) × NoneLeft l.index l.indices l.marks (l.at + l.x)

abbrev pub invariant-rows : goal.invariant-rows
invariant-rows l = (l.left ≡ false) × NoneLeft l.index l.indices l.marks (l.y * l.w)
