-- `prepare`: the checks in their order. Assumes nothing.
use native.Mathlib.Omega.{arith}
use Rattle.sheet.specs.Checks.{WellFormed}
use Rattle.sheet.specs.Sheet.{sheet_of}
use Rattle.selection.proofs.Regions.{Found, region-found, region-none}
use Rattle.tile_mirror_checks.proofs.Staging.{stage-sheet, stage-long, stage-off, stage-stray, stage-short, stage-done}
use borrow.Author.Rules.{rules}
use Rattle.tile_mirror_checks.proofs.prepare.Goals as goal
use Rattle.tile_mirror_checks.proofs.prepare.Goals.{Else-first-ne0, In-Part}

-- past the first test the sheet is well-formed
past : (c : Else-first-ne0) → let a = c.args in WellFormed (sheet_of a.w a.h a.k a.palette.now a.lab.now a.indices.now)
past c = c.check-first.ensures.fine c.if-first-ne0.false

-- the region
found : (c : In-Part) → let a = c.args in Found a.area a.w a.h c.in-Part.s
found c = let l = (past (goal.at.In-Part c).Else-first-ne0).limits in region-found _ _ l.w-small l.h-small _ _ c.region.ensures c.in-Part.is

pub returns-then-first-ne0 : goal.returns-then-first-ne0
returns-then-first-ne0 c = stage-sheet _ _ _ _ _ _ c.check-first.ensures c.if-first-ne0.true

pub returns-then-count-gt-MAX_CHANGES : goal.returns-then-count-gt-MAX_CHANGES
returns-then-count-gt-MAX_CHANGES c = stage-long _ _ _ _ _ (past (goal.at.returns-then-count-gt-MAX_CHANGES c).Else-first-ne0) c.if-count-gt-MAX_CHANGES.true

pub returns-in_default : goal.returns-in_default
returns-in_default c = let f = past (goal.at.returns-in_default c).Else-first-ne0 in stage-off _ _ _ _ _ f c.if-count-gt-MAX_CHANGES.false (region-none _ _ f.limits.w-small f.limits.h-small _ c.region.result c.region.ensures c.in_default.not-Part)

pub returns-then-off : goal.returns-then-off
returns-then-off c = stage-stray _ _ _ _ _ (past (goal.at.returns-then-off c).Else-first-ne0) c.if-count-gt-MAX_CHANGES.false (found (goal.at.returns-then-off c).In-Part).unrefused c.if-off.true

pub returns-then-room-indices : goal.returns-then-room-indices
returns-then-room-indices c = let f = past (goal.at.returns-then-room-indices c).Else-first-ne0 in stage-short _ _ _ _ _ f c.if-count-gt-MAX_CHANGES.false (found (goal.at.returns-then-room-indices c).In-Part).unrefused c.if-off.false (omega (arith, f.limits.indices-length, c.if-room-indices.true))

pub returns : goal.returns
returns c = let f = past (goal.at.returns c).Else-first-ne0 in rw (found (goal.at.returns c).In-Part).value (stage-done _ _ _ _ _ f c.if-count-gt-MAX_CHANGES.false (found (goal.at.returns c).In-Part).unrefused c.if-off.false (omega (arith, f.limits.indices-length, c.if-room-indices.false)))
