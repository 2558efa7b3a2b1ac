-- The calls: their checks, in document 01's order, and what they leave. Definitions only. Assumes nothing.
use Rattle.std.specs.Prelude.{Bool, not, List, [], ◌∷◌, ◌++◌, ℕ, ◌*◌, ◌%◌, ltb, eqb, ℤ, negsuc, length}
use Rattle.base.specs.Numbers.{bad_sheet, no_space}
use Rattle.base.specs.Checks.{Check, ◌when◌, checked}
use Rattle.base.specs.Answer.{Filled, filled}
use Rattle.base.specs.declared.Counted.{Counted}
use Rattle.selection.specs.declared.Area.{Area}
use Rattle.selection.specs.Region.{region_checks, region_in}
use Rattle.sheet.specs.Sheet.{Sheet}
use Rattle.sheet.specs.Checks.{sheet_checks}
use Rattle.tool_line.specs.Line.{Point}
use Rattle.change_list.specs.Listed.{listed}
use Rattle.tool_stamp.specs.Points.{pencil_of, rectangle_of}
use Rattle.tool_stamp.specs.Given.{corner_checks, points_of, point_checks}
use Rattle.tool_draw.specs.declared.Stage.{Stage}
use Rattle.tool_draw.specs.declared.Stage.TheVariants.{Canvas, Refused}

-- what a call leaves: its answer, and the buffer
abbrev pub leaves : Counted → List ℕ → Filled ℕ
leaves answer buffer = filled answer buffer

-- 1, 2, 3, then what the points are held to, 5 for the selection, and 16: "scratch under w × h places", which is `room`
unfoldable pub draw_checks : Sheet → List Check → Area → ℕ → List Check
draw_checks s given area room = sheet_checks [] s ++ (given ++ (region_checks area s.w s.h ++ (no_space when ltb room (s.w * s.h) ∷ [])))

-- the region that is drawn in, where none of them applies
unfoldable pub stage_of : Sheet → List Check → Area → ℕ → Stage
stage_of s given area room = checked (draw_checks s given area room) Refused (Canvas (region_in area s.w s.h))

-- ---- `rectangle`
unfoldable pub rectangle_call : Sheet → Area → Point → Point → Bool → ℤ → ℕ → List ℕ → Filled ℕ
rectangle_call s area a b filled index room out =
    listed (draw_checks s (corner_checks a b) area room) (rectangle_of s.w s.indices (region_in area s.w s.h) a b filled index) out

-- ---- `pencil`
unfoldable pub pencil_call : Sheet → Area → List ℤ → ℕ → ℤ → ℕ → List ℕ → Filled ℕ
pencil_call s area points size index room out =
    listed (bad_sheet when not (eqb (length points % 2) 0) ∷ draw_checks s (point_checks points) area room)
    (pencil_of s.w s.indices (region_in area s.w s.h) (points_of points) size index) out

-- ---- `eraser`: "the pencil with transparency (`-1`)"
unfoldable pub eraser_call : Sheet → Area → List ℤ → ℕ → ℕ → List ℕ → Filled ℕ
eraser_call s area points size room out = pencil_call s area points size (negsuc 0) room out

-- ---- `line`: "from `a` to `b` with the brush", the pencil through two points
unfoldable pub line_call : Sheet → Area → Point → Point → ℕ → ℤ → ℕ → List ℕ → Filled ℕ
line_call s area a b size index room out =
    listed (draw_checks s (corner_checks a b) area room) (pencil_of s.w s.indices (region_in area s.w s.h) (a ∷ b ∷ []) size index) out
