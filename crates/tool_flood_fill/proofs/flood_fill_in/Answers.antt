-- `flood_fill_in`: the checks, and the fill, left in the scratch. Assumes nothing.
use mathlib.Core.Path.{◌≡◌, refl, sym, ◌∙◌}
use mathlib.Core.List.{map}
use lib.ListN.{length}
use mir.Facts.{to_z-of_z}
use Rattle.sheet.specs.Sheet.{Sheet, sheet_of}
use Rattle.edit.specs.Change.{packed}
use Rattle.change_list.specs.Fronts.{Front}
use Rattle.change_list.proofs.Fronts.{front-within}
use Rattle.base.specs.Checks.{first_of}
use Rattle.selection.specs.Region.{region_in}
use Rattle.tool_fill_model.specs.Fill.{fill_of, fill_checks, Fillable, Fine}
use Rattle.tool_fill_model.proofs.Tests.{ready}
use Rattle.tool_fill_model.proofs.Results.{answer-refused, answer-counted}
use Rattle.change_list.proofs.InScratch.{scratch-none, scratch-then}
use borrow.Author.Rules.{rules}
use Rattle.tool_flood_fill.proofs.flood_fill_in.Goals as goal
use Rattle.tool_flood_fill.proofs.flood_fill_in.Goals.{After-fill_in-n, After-fill_no-no, Else-no-ne0, Start}

abbrev sheet : (c : Start) → Sheet
sheet c = let a = c.args in sheet_of a.w a.h a.k a.palette.now a.lab.now a.indices.now

-- what the checks tell
told : (c : After-fill_no-no) → let a = c.args in Fillable (sheet (goal.at.After-fill_no-no c).Start) a.area a.x a.y (length a.scratch.now) c.fill_no-no.result
told c = rw (to_z-of_z c.ranges.x, to_z-of_z c.ranges.y) at c.fill_no-no.ensures

fine : (c : Else-no-ne0) → let a = c.args in Fine (sheet (goal.at.Else-no-ne0 c).Start) a.area a.x a.y (length a.scratch.now)
fine c = (told (goal.at.Else-no-ne0 c).After-fill_no-no).fine c.if-no-ne0.false

-- what the fill leaves
front : (c : After-fill_in-n)
    → let a = c.args in Front (map packed (fill_of a.w a.indices.now (region_in a.area a.w a.h) a.x a.y a.index)) c.fill_in-n.new.scratch c.fill_in-n.result
front c = rw (to_z-of_z c.ranges.x, to_z-of_z c.ranges.y, to_z-of_z c.ranges.index, c.region_in-region.ensures) at c.fill_in-n.ensures

fit : (c : After-fill_in-n) → 0 ≡ first_of (fill_checks (sheet (goal.at.After-fill_in-n c).Start) c.args.area c.args.x c.args.y (length c.args.scratch.now))
fit c = sym c.if-no-ne0.false ∙ (told (goal.at.After-fill_in-n c).After-fill_no-no).value

pub returns-then-no-ne0 : goal.returns-then-no-ne0
returns-then-no-ne0 c = record { fact = scratch-none (λ out e. answer-refused _ _ _ _ _ _ out _ (told (goal.at.returns-then-no-ne0 c).After-fill_no-no).value c.if-no-ne0.true); scratch_len_unchanged = refl }

pub region_in-region-requires : goal.region_in-region-requires
region_in-region-requires c = let l = (fine c).well.limits in (l.w-small, l.h-small)

pub fill_in-n-requires : goal.fill_in-n-requires
fill_in-n-requires c = rw (to_z-of_z c.ranges.x, to_z-of_z c.ranges.y, c.region_in-region.ensures) (ready _ _ _ _ _ (fine (goal.at.fill_in-n-requires c).Else-no-ne0))

pub returns : goal.returns
returns c =
    let f = front (goal.at.returns c).After-fill_in-n in record { fact = scratch-then (c.counted.ensures _ (front-within f)) (λ out after e d. answer-counted _ _ _ _ _ _ out (fit (goal.at.returns c).After-fill_in-n) _ _ f d); scratch_len_unchanged = c.fill_in-n.auto.scratch }
