-- `get_at`: 1 to 3, then 15 for either coordinate. Assumes nothing.
use mathlib.Core.Path.{◌≡◌, sym}
use mir.Facts.{to_z-of_z}
use Rattle.base.specs.Checks.{first_of, refused_or}
use Rattle.base.specs.Ints.{far}
use Rattle.sheet.specs.Sheet.{sheet_of}
use Rattle.sheet.specs.Checks.{WellFormed}
use Rattle.sheet.specs.Document.{get_at_of}
use Rattle.sheet.proofs.Judging.{past-sheet, refused-sheet}
use Rattle.sheet.proofs.document.get_at.Goals as goal
use Rattle.sheet.proofs.document.get_at.Goals.{After-is_far, After-is_far-2, Else-no-ne0}

-- past the first test the sheet is well-formed
past : (c : Else-no-ne0) → let a = c.args in WellFormed (sheet_of a.w a.h a.k a.palette.now a.lab.now a.indices.now)
past c = c.check-no.ensures.fine c.if-no-ne0.false

-- what the two tests find
far-x : (c : After-is_far) → far c.args.x ≡ c.is_far.result
far-x c = sym (rw (to_z-of_z c.ranges.x) at c.is_far.ensures)

far-y : (c : After-is_far-2) → far c.args.y ≡ c.is_far-2.result
far-y c = sym (rw (to_z-of_z c.ranges.y) at c.is_far-2.ensures)

pub returns-then-no-ne0 : goal.returns-then-no-ne0
unfolding get_at_of
returns-then-no-ne0 c = refused-sheet _ _ _ _ _ c.check-no.ensures c.if-no-ne0.true

pub returns-then-is_far : goal.returns-then-is_far
unfolding get_at_of first_of refused_or
returns-then-is_far c = rw (past-sheet _ (past (goal.at.returns-then-is_far c).Else-no-ne0), far-x (goal.at.returns-then-is_far c).After-is_far, c.if-is_far.true)

pub returns-then-is_far-2 : goal.returns-then-is_far-2
unfolding get_at_of first_of refused_or
returns-then-is_far-2 c = rw (past-sheet _ (past (goal.at.returns-then-is_far-2 c).Else-no-ne0), far-x (goal.at.returns-then-is_far-2 c).After-is_far, c.if-is_far.false, far-y (goal.at.returns-then-is_far-2 c).After-is_far-2, c.if-is_far-2.true)

pub index_at-requires : goal.index_at-requires
index_at-requires c = let f = (past (goal.at.index_at-requires c).Else-no-ne0).limits in (f.indices-length, f.cells)

pub returns : goal.returns
unfolding get_at_of first_of refused_or
returns c =
    rw (past-sheet _ (past (goal.at.returns c).Else-no-ne0), far-x (goal.at.returns c).After-is_far, c.if-is_far.false, far-y (goal.at.returns c).After-is_far-2, c.if-is_far-2.false)
    (rw (to_z-of_z c.ranges.x, to_z-of_z c.ranges.y) at c.index_at.ensures)
