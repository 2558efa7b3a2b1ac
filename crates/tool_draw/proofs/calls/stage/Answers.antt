-- `stage`: the checks in their order. Assumes nothing.
use mathlib.Core.Path.{sym, ◌∙◌}
use Rattle.sheet.specs.Sheet.{sheet_of}
use Rattle.sheet.specs.Checks.{WellFormed}
use Rattle.selection.proofs.Regions.{Found, region-found, region-none}
use Rattle.tool_draw.proofs.Staging.{stage-sheet, stage-given, stage-off, stage-short, stage-done}
use borrow.Author.Rules.{rules}
use Rattle.tool_draw.proofs.calls.stage.Goals as goal
use Rattle.tool_draw.proofs.calls.stage.Goals.{Else-first-ne0, In-Part}

-- past the first test the sheet is well-formed
past : (c : Else-first-ne0) → let a = c.args in WellFormed (sheet_of a.w a.h a.k a.palette.now a.lab.now a.indices.now)
past c = c.check-first.ensures.fine c.if-first-ne0.false

-- the region
found : (c : In-Part) → let a = c.args in Found a.area a.w a.h c.in-Part.s
found c = let l = (past (goal.at.In-Part c).Else-first-ne0).limits in region-found _ _ l.w-small l.h-small _ _ c.region.ensures c.in-Part.is

pub returns-then-first-ne0 : goal.returns-then-first-ne0
returns-then-first-ne0 c = λ given e. stage-sheet _ _ _ _ _ c.check-first.ensures c.if-first-ne0.true

pub returns-then-no-ne0 : goal.returns-then-no-ne0
returns-then-no-ne0 c = λ given e. stage-given _ _ _ _ (past (goal.at.returns-then-no-ne0 c).Else-first-ne0) _ e c.if-no-ne0.true

pub returns-in_default : goal.returns-in_default
returns-in_default c = λ given e. let f = past (goal.at.returns-in_default c).Else-first-ne0 in stage-off _ _ _ _ f (sym c.if-no-ne0.false ∙ e) (region-none _ _ f.limits.w-small f.limits.h-small _ c.region.result c.region.ensures c.in_default.not-Part)

pub returns-then-room-indices : goal.returns-then-room-indices
returns-then-room-indices c = λ given e. let f = past (goal.at.returns-then-room-indices c).Else-first-ne0 in stage-short _ _ _ _ f (sym c.if-no-ne0.false ∙ e) (found (goal.at.returns-then-room-indices c).In-Part).unrefused (rw f.limits.indices-length at c.if-room-indices.true)

pub returns : goal.returns
returns c = λ given e. let f = past (goal.at.returns c).Else-first-ne0 in rw (found (goal.at.returns c).In-Part).value (stage-done _ _ _ _ f (sym c.if-no-ne0.false ∙ e) (found (goal.at.returns c).In-Part).unrefused (rw f.limits.indices-length at c.if-room-indices.false))
