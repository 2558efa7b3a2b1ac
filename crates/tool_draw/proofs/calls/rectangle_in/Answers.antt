-- `rectangle_in`: the checks; then its rows laid out, painted and compared. Assumes nothing.
use mathlib.Core.Path.{◌≡◌, sym, ◌∙◌}
use native.Mathlib.Omega.{arith}
use lib.ListN.{length}
use mir.Syntax.{w16}
use mir.Val.{of_z}
use mir.Facts.{to_z-of_z}
use Rattle.base.proofs.Back.{by_value}
use Rattle.sheet.specs.Sheet.{Sheet, sheet_of}
use Rattle.tool_line.specs.Line.{point}
use Rattle.tool_stamp.specs.Points.{rectangle_points, rectangle_of}
use Rattle.tool_stamp.specs.Given.{corner_checks}
use Rattle.tool_reach.specs.Reached.{Holds}
use Rattle.tool_draw.specs.Calls.{stage_of, rectangle_call}
use Rattle.tool_draw.proofs.Staging.{Ready, ready, ready-fits, ready-rows, refused, answered}
use Rattle.change_list.proofs.InScratch.{scratch-none, scratch-then}
use borrow.Author.Rules.{rules}
use Rattle.tool_draw.proofs.calls.rectangle_in.Goals as goal
use Rattle.tool_draw.proofs.calls.rectangle_in.Goals.{After-rectangle_rows-rows, After-stage, In-Canvas, Start}

abbrev sheet : (c : Start) → Sheet
sheet c = let a = c.args in sheet_of a.w a.h a.k a.palette.now a.lab.now a.indices.now

-- what the checks answered
answer : (c : After-stage) → let a = c.args in c.stage.result ≡ stage_of (sheet (goal.at.After-stage c).Start) (corner_checks (point a.ax a.ay) (point a.bx a.by)) a.area (length a.scratch.now)
answer c = let f = c.ranges in c.stage.ensures _ (rw (to_z-of_z f.ax, to_z-of_z f.ay, to_z-of_z f.bx, to_z-of_z f.by) at c.corners_no-no.ensures)

readied : (c : In-Canvas) → let a = c.args in Ready (sheet (goal.at.In-Canvas c).Start) (corner_checks (point a.ax a.ay) (point a.bx a.by)) a.area (length a.scratch.now) c.in-Canvas.s
readied c = ready _ _ _ _ _ (sym c.in-Canvas.is ∙ answer (goal.at.In-Canvas c).After-stage)

-- the rows that hold its points
held : (c : After-rectangle_rows-rows) → let a = c.args in
    Holds c.in-Canvas.s (rectangle_points (point a.ax a.ay) (point a.bx a.by) a.filled) c.rectangle_rows-rows.result
held c =
    let a = c.args in
    rw (to_z-of_z c.ranges.ay, to_z-of_z c.ranges.by) at (c.rectangle_rows-rows.ensures a.ax a.bx a.filled)

pub lay_rows-requires : goal.lay_rows-requires
lay_rows-requires c = ready-rows _ _ _ _ _ (readied (goal.at.lay_rows-requires c).In-Canvas) (held (goal.at.lay_rows-requires c).After-rectangle_rows-rows) _ (omega arith)

pub paint_rectangle-requires : goal.paint_rectangle-requires
paint_rectangle-requires c =
    let r = readied (goal.at.paint_rectangle-requires c).In-Canvas in
    ready-fits _ _ _ _ _ r _ (omega (arith, r.space, c.lay_rows.auto.scratch))

pub finish-requires : goal.finish-requires
finish-requires c =
    ready-rows _ _ _ _ _ (readied (goal.at.finish-requires c).In-Canvas) (held (goal.at.finish-requires c).After-rectangle_rows-rows) _ (omega (arith, c.lay_rows.auto.scratch, c.paint_rectangle.auto.scratch))

pub returns-in-Canvas : goal.returns-in-Canvas
unfolding rectangle_call rectangle_of
returns-in-Canvas c =
    let r = readied (goal.at.returns-in-Canvas c).In-Canvas in
    let a = c.args in
    let f = c.ranges in
    let bits = by_value (of_z w16) f.index c.bits_of-v.ensures in
    let is = rw (to_z-of_z f.ax, to_z-of_z f.ay, to_z-of_z f.bx, to_z-of_z f.by, bits) at c.paint_rectangle.ensures in record {
      fact = scratch-then c.finish.ensures
          (λ out after e d. answered _ _ _ _ _ r (held (goal.at.returns-in-Canvas c).After-rectangle_rows-rows) a.index _ _ _ out after f.index c.lay_rows.ensures is d);
      scratch_len_unchanged = c.finish.auto.scratch ∙ c.paint_rectangle.auto.scratch ∙ c.lay_rows.auto.scratch;
    }

pub returns-in-Refused : goal.returns-in-Refused
unfolding rectangle_call
returns-in-Refused c = record { fact = scratch-none (λ out e. refused _ _ _ _ _ out _ (sym c.in-Refused.is ∙ answer (goal.at.returns-in-Refused c).After-stage)); scratch_len_unchanged = search rules }
