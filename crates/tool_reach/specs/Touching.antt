-- Where a brush on its way along a line touches a region. Definitions only. Assumes nothing.
use Rattle.std.specs.Prelude.{◌≡◌, Bool, ◌&&◌, ℕ, ◌+◌, ◌-◌, ◌/◌, ◌≤◌, ltb, ℤ, pos, ◌+ℤ◌, ◌-ℤ◌}
use Rattle.selection.specs.declared.Selection.{Selection}
use Rattle.tool_line.specs.declared.Steps.{Steps}
use Rattle.tool_line.specs.Line.{Point, longer, point_at}
use Rattle.tool_line.specs.Steps.{among}
use Rattle.tool_stamp.specs.Places.{clipped}

-- whether one axis of a brush of n at z has a place from `from` on and below `end`
unfoldable pub touches : ℕ → ℤ → ℕ → ℕ → Bool
touches n z from end = let first = z -ℤ pos ((n - 1) / 2) in ltb 0 (clipped first (first +ℤ pos (n - 1)) from end).count

-- whether a brush of n at p has a place in the region
unfoldable pub touches_region : Selection → ℕ → Point → Bool
touches_region region n p = touches n p.x region.x (region.x + region.w) && touches n p.y region.y (region.y + region.h)

-- the steps of the line from a to b, but the first, at which it has one
pub record Touched (region : Selection) (n : ℕ) (a b : Point) (s : Steps) : Type 0 where
  pub after : 1 ≤ s.first
  pub upto : s.end ≤ longer a b + 1
  pub exactly : (j : ℕ) → 1 ≤ j → j ≤ longer a b → among s j ≡ touches_region region n (point_at a b j)

-- ---- what is asked: a region of some sheet
pub record Inside (region : Selection) : Type 0 where
  pub right : region.x + region.w ≤ 1024
  pub bottom : region.y + region.h ≤ 1024
