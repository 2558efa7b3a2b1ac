-- `linear_rgb_in`: each of the three is the curve's value, from 0 to 1. Assumes nothing.
use Prim.Native.Nat.{ℕ, ◌≤◌}
use native.Mathlib.Omega.{arith}
use borrow.Author.Rules.{rules}
use lib.Dec.{T}
use lib.Ieee.{Float}
use Rattle.color_lab.specs.Curve.{linear_rgb, Linear}
use Rattle.color_lab.specs.Convert.{is_linear}
use Rattle.color_lab.proofs.LinearTable.{linear-linear}
use Rattle.color_lab.proofs.curve.linear_rgb_in.Goals as goal

in-unit : (c : ℕ) (x : Float) → c ≤ 255 → Linear c x → T (is_linear x)
in-unit c x h e = rw e.value (linear-linear c h)

pub returns : goal.returns
unfolding linear_rgb
returns c =
    let r = c.linear_in.ensures in
    let g = c.linear_in-2.ensures in
    let b = c.linear_in-3.ensures in (
      cc (r.value, g.value, b.value),
      record { r-linear = in-unit _ _ (omega arith) r; g-linear = in-unit _ _ (omega arith) g; b-linear = in-unit _ _ (omega arith) b },
    )
