-- The call `bresenham`: its checks, in document 01's order, and its answer. Definitions only. Assumes nothing.
use Rattle.std.specs.Prelude.{List, [], ◌∷◌, ◌*◌, ◌+◌, ◌≤◌, ◌/◌, ltb, ℤ, length}
use Rattle.base.specs.Numbers.{too_far, no_space}
use Rattle.base.specs.Checks.{Check, ◌when◌, checked}
use Rattle.base.specs.Answer.{Filled, leaving}
use Rattle.base.specs.Answer.Told.{result, alone}
use Rattle.base.specs.Lists.{over}
use Rattle.tool_line.specs.Line.{Point, Near, far_point, longer, line_of, flat}

-- "too far", then "no space: result count exceeds its buffer", which has room for a point in two numbers
unfoldable pub line_checks : Point → Point → List ℤ → List Check
line_checks a b out =
    too_far when far_point a
    ∷ too_far when far_point b
    ∷ no_space when ltb (length out / 2) (length (line_of a b))
    ∷ []

unfoldable pub bresenham_of : Point → Point → List ℤ → Filled ℤ
bresenham_of a b out =
    checked (line_checks a b out)
    (λ n. leaving (alone n) out)
    (leaving (result (length (line_of a b))) (over (flat (line_of a b)) out))

-- what the writing of a line asks: points that are not too far, and room
pub record Room (a b : Point) (out : List ℤ) : Type 0 where
  pub near-start : Near a
  pub near-end : Near b
  pub room : 2 * (longer a b + 1) ≤ length out
