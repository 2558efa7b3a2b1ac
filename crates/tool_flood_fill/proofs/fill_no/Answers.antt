-- `fill_no`: the checks in their order. Assumes nothing.
use mathlib.Core.Path.{◌≡◌, sym, ◌∙◌}
use Rattle.selection.specs.Region.{off_sheet}
use Rattle.base.specs.Ints.{far}
use Rattle.base.proofs.Back.{by_value}
use Rattle.sheet.specs.Sheet.{sheet_of}
use Rattle.sheet.specs.Checks.{WellFormed}
use Rattle.tool_fill_model.proofs.Tests.{fill-judged, far-across, far-down, off-it, no_room, fillable}
use borrow.Author.Rules.{rules}
use Rattle.tool_flood_fill.proofs.fill_no.Goals as goal
use Rattle.tool_flood_fill.proofs.fill_no.Goals.{After-is_far, After-is_far-2, After-off_sheet, Else-no-ne0}

-- past the first test the sheet is well-formed
past : (c : Else-no-ne0) → let a = c.args in WellFormed (sheet_of a.w a.h a.k a.palette.now a.lab.now a.indices.now)
past c = c.check-no.ensures.fine c.if-no-ne0.false

-- what the tests find
far-x : (c : After-is_far) → far c.args.x ≡ c.is_far.result
far-x c = sym (by_value far c.ranges.x c.is_far.ensures)

far-y : (c : After-is_far-2) → far c.args.y ≡ c.is_far-2.result
far-y c = sym (by_value far c.ranges.y c.is_far-2.ensures)

off : (c : After-off_sheet) → let a = c.args in off_sheet a.area a.w a.h ≡ c.off_sheet.result
off c = sym c.off_sheet.ensures

pub returns-then-no-ne0 : goal.returns-then-no-ne0
returns-then-no-ne0 c = fill-judged _ _ _ _ _ _ c.check-no.ensures c.if-no-ne0.true

pub returns-then-is_far : goal.returns-then-is_far
returns-then-is_far c = far-across _ _ _ _ _ (past (goal.at.returns-then-is_far c).Else-no-ne0) (far-x (goal.at.returns-then-is_far c).After-is_far ∙ c.if-is_far.true)

pub returns-then-is_far-2 : goal.returns-then-is_far-2
returns-then-is_far-2 c = far-down _ _ _ _ _ (past (goal.at.returns-then-is_far-2 c).Else-no-ne0) (far-x (goal.at.returns-then-is_far-2 c).After-is_far ∙ c.if-is_far.false) (far-y (goal.at.returns-then-is_far-2 c).After-is_far-2 ∙ c.if-is_far-2.true)

pub off_sheet-requires : goal.off_sheet-requires
off_sheet-requires c = let f = (past (goal.at.off_sheet-requires c).Else-no-ne0).limits in (f.w-small, f.h-small)

pub returns-then-off_sheet : goal.returns-then-off_sheet
returns-then-off_sheet c = off-it _ _ _ _ _ (past (goal.at.returns-then-off_sheet c).Else-no-ne0) (far-x (goal.at.returns-then-off_sheet c).After-is_far ∙ c.if-is_far.false) (far-y (goal.at.returns-then-off_sheet c).After-is_far-2 ∙ c.if-is_far-2.false) (off (goal.at.returns-then-off_sheet c).After-off_sheet ∙ c.if-off_sheet.true)

pub returns-then-room-indices : goal.returns-then-room-indices
returns-then-room-indices c = no_room _ _ _ _ _ (past (goal.at.returns-then-room-indices c).Else-no-ne0) (far-x (goal.at.returns-then-room-indices c).After-is_far ∙ c.if-is_far.false) (far-y (goal.at.returns-then-room-indices c).After-is_far-2 ∙ c.if-is_far-2.false) (off (goal.at.returns-then-room-indices c).After-off_sheet ∙ c.if-off_sheet.false) (rw (past (goal.at.returns-then-room-indices c).Else-no-ne0).limits.indices-length at c.if-room-indices.true)

pub returns : goal.returns
returns c = fillable _ _ _ _ _ (past (goal.at.returns c).Else-no-ne0) (far-x (goal.at.returns c).After-is_far ∙ c.if-is_far.false) (far-y (goal.at.returns c).After-is_far-2 ∙ c.if-is_far-2.false) (off (goal.at.returns c).After-off_sheet ∙ c.if-off_sheet.false) (rw (past (goal.at.returns c).Else-no-ne0).limits.indices-length at c.if-room-indices.false)
