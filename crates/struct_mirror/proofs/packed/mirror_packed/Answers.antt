-- `mirror_packed`: the checks, then the list with its copies or as it is. Assumes nothing.
use lib.ListN.{length}
use mathlib.Core.Path.{◌≡◌, sym, ◌∙◌}
use Rattle.sheet.specs.Sheet.{Sheet, sheet_of}
use Rattle.tile_mirror_checks.specs.Calls.{stage_of}
use Rattle.tile_mirror_checks.proofs.Staging.{Passed, passed}
use Rattle.struct_mirror.proofs.Laying.{packed-mirrorable, packed-refused, packed-done}
use Rattle.struct_mirror.proofs.packed.mirror_packed.Goals as goal
use Rattle.struct_mirror.proofs.packed.mirror_packed.Goals.{After-prepare, In-Canvas, Start}

abbrev sheet : (c : Start) → Sheet
sheet c = let a = c.args in sheet_of a.w a.h a.k a.palette.now a.lab.now a.indices.now

-- what the checks answered
answer : (c : After-prepare) → let a = c.args in c.prepare.result ≡ stage_of (sheet (goal.at.After-prepare c).Start) a.area a.n a.off (length a.scratch.now)
answer c = c.prepare.ensures

done : (c : In-Canvas) → let a = c.args in Passed (sheet (goal.at.In-Canvas c).Start) a.area a.n a.off (length a.scratch.now) c.in-Canvas.s
done c = passed _ _ _ _ _ _ (sym c.in-Canvas.is ∙ answer (goal.at.In-Canvas c).After-prepare)

pub finish-requires : goal.finish-requires
finish-requires c = let a = c.args in let p = done (goal.at.finish-requires c).In-Canvas in (packed-mirrorable (sheet (goal.at.finish-requires c).Start) a.area a.on a.t c.is_touching-touched.result a.n c.is_touching-touched.ensures a.off p.well p.few p.held a.flat.now (λ y. c.requires (sym c.is_touching-touched.ensures ∙ y)), p.space)

pub returns-in-Canvas : goal.returns-in-Canvas
returns-in-Canvas c list e j q = let a = c.args in let i = c.is_touching-touched.ensures in packed-done (sheet (goal.at.returns-in-Canvas c).Start) a.area a.on a.t c.is_touching-touched.result a.n i a.off list a.flat.now e j (length a.scratch.now) a.room _ _ (done (goal.at.returns-in-Canvas c).In-Canvas) (c.finish.ensures list e (λ y. q (sym i ∙ y)))

pub returns-in-Refused : goal.returns-in-Refused
returns-in-Refused c list e j q = let a = c.args in packed-refused (sheet (goal.at.returns-in-Refused c).Start) a.area a.on a.t c.is_touching-touched.result a.n c.is_touching-touched.ensures a.off list a.flat.now e j (length a.scratch.now) a.room _ _ (sym c.in-Refused.is ∙ answer (goal.at.returns-in-Refused c).After-prepare)
