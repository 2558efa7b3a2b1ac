-- `pencil_in`: the checks; then its rows laid out, painted and compared. Assumes nothing.
use mathlib.Core.Path.{◌≡◌, sym, ◌∙◌}
use mathlib.Core.Bool.{not}
use native.Mathlib.Omega.{arith}
use borrow.Author.Tests.{eq-eqb, ne_eqb}
use Prim.Native.Nat.{◌%◌}
use lib.Dec.{eqb}
use lib.ListN.{length}
use mir.Syntax.{w16}
use mir.Val.{of_z}
use Rattle.base.specs.Checks.{◌when◌}
use Rattle.base.proofs.Back.{by_value}
use Rattle.sheet.specs.Sheet.{Sheet, sheet_of}
use Rattle.tool_line.specs.Brush.{stamped}
use Rattle.tool_stamp.specs.Points.{pencil_of}
use Rattle.tool_stamp.specs.Given.{points_of, point_checks}
use Rattle.tool_reach.specs.Reached.{Holds}
use Rattle.tool_draw.specs.Calls.{stage_of, pencil_call}
use Rattle.tool_stamp.proofs.Stamps.{brush-clamped}
use Rattle.tool_reach.proofs.Paths.{points_near, stamped-places}
use Rattle.tool_reach.proofs.Reached.{stamped-again}
use Rattle.tool_draw.proofs.Staging.{Ready, ready, ready-fits, ready-rows, refused, answered, listed-first, listed-skip}
use Rattle.change_list.proofs.InScratch.{scratch-none, scratch-then}
use borrow.Author.Rules.{rules}
use Rattle.tool_draw.proofs.calls.pencil_in.Goals as goal
use Rattle.tool_draw.proofs.calls.pencil_in.Goals.{After-path_rows-rows, After-stage, In-Canvas, Start}

abbrev sheet : (c : Start) → Sheet
sheet c = let a = c.args in sheet_of a.w a.h a.k a.palette.now a.lab.now a.indices.now

-- what the checks answered
answer : (c : After-stage) → let a = c.args in c.stage.result ≡ stage_of (sheet (goal.at.After-stage c).Start) (point_checks a.points.now) a.area (length a.scratch.now)
answer c = c.stage.ensures _ c.points_no-no.ensures

readied : (c : In-Canvas) → let a = c.args in Ready (sheet (goal.at.In-Canvas c).Start) (point_checks a.points.now) a.area (length a.scratch.now) c.in-Canvas.s
readied c = ready _ _ _ _ _ (sym c.in-Canvas.is ∙ answer (goal.at.In-Canvas c).After-stage)

-- the rows that hold its points
held : (c : After-path_rows-rows) → let a = c.args in
    Holds c.in-Canvas.s (stamped a.size (points_of a.points.now)) c.path_rows-rows.result
held c =
    let a = c.args in
    rw (c.clamp-brush.ensures, stamped-again a.size (points_of a.points.now)) at c.path_rows-rows.ensures

pub returns-then-points-ne0 : goal.returns-then-points-ne0
unfolding pencil_call
returns-then-points-ne0 c = record { fact = scratch-none (λ out e. listed-first (1 when not (eqb (length c.args.points.now % 2) 0)) _ _ out (omega arith) (rw (ne_eqb _ 0 c.if-points-ne0.true))); scratch_len_unchanged = search rules }

pub path_rows-rows-requires : goal.path_rows-rows-requires
path_rows-rows-requires c =
    (rw c.clamp-brush.ensures (brush-clamped _), points_near _ c.if-points-ne0.false (readied (goal.at.path_rows-rows-requires c).In-Canvas).given-none)

pub lay_rows-requires : goal.lay_rows-requires
lay_rows-requires c = ready-rows _ _ _ _ _ (readied (goal.at.lay_rows-requires c).In-Canvas) (held (goal.at.lay_rows-requires c).After-path_rows-rows) _ (omega arith)

pub paint_path-requires : goal.paint_path-requires
paint_path-requires c =
    let even = c.if-points-ne0.false in
    let r = readied (goal.at.paint_path-requires c).In-Canvas in (
      ready-fits _ _ _ _ _ r _ (omega (arith, r.space, c.lay_rows.auto.scratch)),
      rw c.clamp-brush.ensures (brush-clamped _),
      points_near _ even r.given-none,
      even,
    )

pub finish-requires : goal.finish-requires
finish-requires c =
    ready-rows _ _ _ _ _ (readied (goal.at.finish-requires c).In-Canvas) (held (goal.at.finish-requires c).After-path_rows-rows) _ (omega (arith, c.lay_rows.auto.scratch, c.paint_path.auto.scratch))

pub returns-in-Canvas : goal.returns-in-Canvas
unfolding pencil_call pencil_of
returns-in-Canvas c =
    let a = c.args in
    let bits = by_value (of_z w16) c.ranges.index c.bits_of-v.ensures in
    let is = rw (bits, c.clamp-brush.ensures) at c.paint_path.ensures in
    let places = stamped-places c.in-Canvas.s a.w a.size (points_of a.points.now) in record {
      fact = scratch-then c.finish.ensures
          (λ out after e d. answered _ _ _ _ _ (readied (goal.at.returns-in-Canvas c).In-Canvas) (held (goal.at.returns-in-Canvas c).After-path_rows-rows) a.index _ _ _ out after c.ranges.index c.lay_rows.ensures (rw places at is) d
          ∙ listed-skip (1 when not (eqb (length a.points.now % 2) 0)) _ _ out (rw (eq-eqb _ 0 c.if-points-ne0.false)));
      scratch_len_unchanged = c.finish.auto.scratch ∙ c.paint_path.auto.scratch ∙ c.lay_rows.auto.scratch;
    }

pub returns-in-Refused : goal.returns-in-Refused
unfolding pencil_call
returns-in-Refused c = record { fact = scratch-none (λ out e. refused _ _ _ _ _ out _ (sym c.in-Refused.is ∙ answer (goal.at.returns-in-Refused c).After-stage) ∙ listed-skip (1 when not (eqb (length c.args.points.now % 2) 0)) _ _ out (rw (eq-eqb _ 0 c.if-points-ne0.false))); scratch_len_unchanged = search rules }
