-- What the points of a call are held to. Definitions only. Assumes nothing.
use Rattle.std.specs.Prelude.{List, [], ◌∷◌, ltb, ℤ, length}
use Rattle.base.specs.Limits.{max_changes}
use Rattle.base.specs.Numbers.{too_far, list_too_long}
use Rattle.base.specs.Checks.{Check, ◌when◌}
use Rattle.base.specs.Lists.{some}
use Rattle.tool_line.specs.Line.{Point, point, far_point}

-- `rectangle` and `line`: 15 of each corner
unfoldable pub corner_checks : Point → Point → List Check
corner_checks a b = too_far when far_point a ∷ too_far when far_point b ∷ []

-- `pencil`: points are lent as numbers, x, then y
unfoldable pub points_of : List ℤ → List Point
points_of [] = []
points_of (x ∷ []) = []
points_of (x ∷ y ∷ l) = point x y ∷ points_of l

-- a list of an odd length has no reading: 1, which comes before 2 and 3 as every 1 does. Then 21, "a list of points likewise", and 15 of each
unfoldable pub point_checks : List ℤ → List Check
point_checks points = list_too_long when ltb max_changes (length (points_of points)) ∷ too_far when some far_point (points_of points) ∷ []
