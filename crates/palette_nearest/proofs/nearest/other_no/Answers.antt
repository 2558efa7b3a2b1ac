-- `other_no`: 1 to 3, 7, 9. Assumes nothing.
use Rattle.sheet.specs.Sheet.{sheet_of}
use Rattle.sheet.specs.Checks.{WellFormed}
use Rattle.palette_model.proofs.Answers.{other-refused, other_none, other_last, other-fine}
use Rattle.palette_nearest.proofs.nearest.other_no.Goals as goal
use Rattle.palette_nearest.proofs.nearest.other_no.Goals.{Else-no-ne0}

-- past the first test the sheet is well-formed
past : (c : Else-no-ne0) → let a = c.args in WellFormed (sheet_of a.w a.h a.k a.palette.now a.lab.now a.indices.now)
past c = c.check-no.ensures.fine c.if-no-ne0.false

pub returns-then-no-ne0 : goal.returns-then-no-ne0
returns-then-no-ne0 c = other-refused _ _ _ c.check-no.ensures c.if-no-ne0.true

pub returns-then-k-index : goal.returns-then-k-index
returns-then-k-index c = other_none _ _ (past (goal.at.returns-then-k-index c).Else-no-ne0) c.if-k-index.true

pub returns-then-k-lt2 : goal.returns-then-k-lt2
returns-then-k-lt2 c = other_last _ _ (past (goal.at.returns-then-k-lt2 c).Else-no-ne0) c.if-k-index.false c.if-k-lt2.true

pub returns : goal.returns
returns c = other-fine _ _ (past (goal.at.returns c).Else-no-ne0) c.if-k-index.false c.if-k-lt2.false
