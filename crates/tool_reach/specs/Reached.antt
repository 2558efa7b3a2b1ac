-- The rows that a tool's points can reach inside the region, and the pass over a path's points for them. Definitions only. Assumes nothing.
use Rattle.std.specs.Prelude.{◌≡◌, true, List, ◌+◌, ◌<◌, ◌≤◌, ℤ, nat_abs}
use Rattle.base.specs.Lists.{All}
use Rattle.base.specs.Ints.{min_z, max_z}
use Rattle.selection.specs.declared.Selection.{Selection}
use Rattle.selection.specs.Selection.{contains_i}
use Rattle.tool_line.specs.Line.{Point}
use Rattle.tool_line.specs.Within.{Spanned}
use Rattle.tool_stamp.specs.declared.Run.{Run}
use Rattle.tool_reach.specs.declared.Reach.{Reach}
use Rattle.tool_stamp.specs.Places.{Close}

-- rows of the region, in which each of these points lies that the region contains
pub record Holds (region : Selection) (ps : List Point) (rows : Run) : Type 0 where
  pub ends : rows.start + rows.count ≤ region.y + region.h
  pub each : All (λ p. contains_i region p.x p.y ≡ true → (rows.start ≤ nat_abs p.y) × (nat_abs p.y < rows.start + rows.count)) ps

-- a least and a greatest row, with one more
unfoldable pub wider : Reach → ℤ → Reach
wider r y = record { low = min_z r.low y; high = max_z r.high y }

-- between which each of these points lies
pub record Spans (ps : List Point) (r : Reach) : Type 0 where
  pub low-close : Close r.low
  pub high-close : Close r.high
  pub each : All (λ p. Spanned r.low r.high p.y) ps
