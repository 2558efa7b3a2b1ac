-- `replace_color`: 1 to 3, 5, then the changes. Assumes nothing.
use mathlib.Core.Path.{◌∙◌}
use mathlib.Core.List.{[], ◌∷◌}
use borrow.Author.Rules.{rules}
use mir.Facts.{to_z-of_z}
use types.Run.{miss}
use Rattle.sheet.specs.Sheet.{sheet_of}
use Rattle.sheet.specs.Checks.{WellFormed}
use Rattle.selection.proofs.Regions.{Found, region-found, region-none, fits-region}
use Rattle.tool_fill_model.proofs.Answers.{replace-sheet, replace-off, replace-past}
use Rattle.tool_replace.proofs.replace_color.Goals as goal
use Rattle.tool_replace.proofs.replace_color.Goals.{Else-no-ne0, In-Part}

-- past the first test the sheet is well-formed
past : (c : Else-no-ne0) → let a = c.args in WellFormed (sheet_of a.w a.h a.k a.palette.now a.lab.now a.indices.now)
past c = c.check-no.ensures.fine c.if-no-ne0.false

-- the region
found : (c : In-Part) → let a = c.args in Found a.area a.w a.h c.in-Part.s
found c = let l = (past (goal.at.In-Part c).Else-no-ne0).limits in region-found _ _ l.w-small l.h-small _ _ c.region.ensures c.in-Part.is

pub returns-then-no-ne0 : goal.returns-then-no-ne0
returns-then-no-ne0 c = replace-sheet _ _ _ _ _ _ c.check-no.ensures c.if-no-ne0.true

pub returns-in_default : goal.returns-in_default
returns-in_default c =
    let f = past (goal.at.returns-in_default c).Else-no-ne0 in
    replace-off _ _ _ _ _ f
    (region-none _ _ f.limits.w-small f.limits.h-small _ c.region.result c.region.ensures c.in_default.not-Part)

pub replace_in-requires : goal.replace_in-requires
replace_in-requires c = let l = (past (goal.at.replace_in-requires c).Else-no-ne0).limits in fits-region _ _ _ l.w-small l.h-small _ l.indices-length (found (goal.at.replace_in-requires c).In-Part).fits

pub returns : goal.returns
returns c =
    let f = found (goal.at.returns c).In-Part in
    (rw (to_z-of_z c.ranges.from, to_z-of_z c.ranges.to) at c.replace_in.ensures)
    ∙ replace-past _ _ _ _ _ (past (goal.at.returns c).Else-no-ne0) f.unrefused _ f.value
