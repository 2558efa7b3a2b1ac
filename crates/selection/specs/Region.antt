-- The region that a tool works in, after 1 to 3 of its sheet: "Selections lie inside the sheet; none means all". Definitions only. Assumes nothing.
use Rattle.std.specs.Prelude.{Bool, false, not, List, [], ◌∷◌, ℕ, ◌+◌, ◌*◌, ◌≤◌}
use Rattle.base.specs.Numbers.{off_the_sheet}
use Rattle.base.specs.Checks.{Check, ◌when◌}
use Rattle.selection.specs.declared.Selection.{Selection}
use Rattle.selection.specs.declared.Area.{Area}
use Rattle.selection.specs.declared.Area.TheVariants as area
use Rattle.selection.specs.Selection.{all, inside}

-- "(+) a selection, not inside"
unfoldable pub off_sheet : Area → ℕ → ℕ → Bool
off_sheet area.Whole width height = false
off_sheet (area.Part s) width height = not (inside s width height)

unfoldable pub region_checks : Area → ℕ → ℕ → List Check
region_checks a width height = off_the_sheet when off_sheet a width height ∷ []

unfoldable pub region_in : Area → ℕ → ℕ → Selection
region_in area.Whole width height = all width height
region_in (area.Part s) width height = s

-- what a loop over the rows of a region asks: it is inside a sheet of width w, whose sides are in the limits
pub record Fits (w pixels : ℕ) (region : Selection) : Type 0 where
  pub width : w ≤ 1024
  pub right : region.x + region.w ≤ w
  pub bottom : region.y + region.h ≤ 1024
  pub below : (region.y + region.h) * w ≤ pixels
