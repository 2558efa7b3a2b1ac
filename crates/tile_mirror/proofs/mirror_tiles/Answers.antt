-- `mirror_tiles`: the checks, then the list with its copies or as it is. Assumes nothing.
use lib.ListN.{length}
use mathlib.Core.Path.{◌≡◌, sym, ◌∙◌}
use Rattle.sheet.specs.Sheet.{Sheet, sheet_of}
use Rattle.tile_mirror_checks.proofs.Touching.{mirrorable}
use Rattle.tile_mirror_checks.proofs.Staging.{Passed, passed, call-refused, call-done}
use Rattle.tile_mirror_checks.specs.Calls.{stage_of}
use borrow.Author.Rules.{rules}
use Rattle.tile_mirror.proofs.mirror_tiles.Goals as goal
use Rattle.tile_mirror.proofs.mirror_tiles.Goals.{After-prepare, In-Canvas, Start}

abbrev sheet : (c : Start) → Sheet
sheet c = let a = c.args in sheet_of a.w a.h a.k a.palette.now a.lab.now a.indices.now

-- what the checks answered
answer : (c : After-prepare) → let a = c.args in c.prepare.result ≡ stage_of (sheet (goal.at.After-prepare c).Start) a.area (length a.list.now) c.is_straying-off.result (length a.scratch.now)
answer c = c.prepare.ensures

done : (c : In-Canvas) → let a = c.args in Passed (sheet (goal.at.In-Canvas c).Start) a.area (length a.list.now) c.is_straying-off.result (length a.scratch.now) c.in-Canvas.s
done c = passed _ _ _ _ _ _ (sym c.in-Canvas.is ∙ answer (goal.at.In-Canvas c).After-prepare)

pub finish-requires : goal.finish-requires
finish-requires c = let p = done (goal.at.finish-requires c).In-Canvas in record { mirrorable = mirrorable _ p.well c.args.on c.args.t _ _ c.is_touching-touched.ensures p.few (sym c.is_straying-off.ensures ∙ p.held); space = p.space }

pub returns-in-Canvas : goal.returns-in-Canvas
returns-in-Canvas c = record { out_after = call-done _ _ _ _ _ _ c.args.on c.args.t _ c.is_touching-touched.ensures c.is_straying-off.ensures _ (done (goal.at.returns-in-Canvas c).In-Canvas) c.finish.ensures; scratch_len_unchanged = c.finish.auto.scratch }

pub returns-in-Refused : goal.returns-in-Refused
returns-in-Refused c = record { out_after = call-refused _ _ _ _ _ _ c.args.on c.args.t _ c.is_touching-touched.ensures c.is_straying-off.ensures _ (sym c.in-Refused.is ∙ answer (goal.at.returns-in-Refused c).After-prepare); scratch_len_unchanged = search rules }
