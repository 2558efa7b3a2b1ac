-- `counts`: 1 to 3, then 16, then one pass over the indices. Assumes nothing.
use native.Mathlib.Omega.{arith}
use Rattle.sheet.specs.Sheet.{sheet_of}
use Rattle.sheet.specs.Checks.{WellFormed}
use Rattle.sheet_counts.proofs.Answers.{counts-refused, counts-short, counts-done}
use Rattle.sheet_counts.proofs.counting.counts.Goals as goal
use Rattle.sheet_counts.proofs.counting.counts.Goals.{Else-no-ne0}

-- past the first test the sheet is well-formed
past : (c : Else-no-ne0) → let a = c.args in WellFormed (sheet_of a.w a.h a.k a.palette.now a.lab.now a.indices.now)
past c = c.check-no.ensures.fine c.if-no-ne0.false

pub returns-then-no-ne0 : goal.returns-then-no-ne0
returns-then-no-ne0 c = counts-refused _ _ _ c.check-no.ensures c.if-no-ne0.true

pub returns-then-out-k : goal.returns-then-out-k
returns-then-out-k c = counts-short _ _ (past (goal.at.returns-then-out-k c).Else-no-ne0) c.if-out-k.true

pub count_entries-requires : goal.count_entries-requires
count_entries-requires c = let f = past (goal.at.count_entries-requires c).Else-no-ne0 in (omega arith, f.in-range, c.if-out-k.false)

pub returns : goal.returns
returns c = counts-done _ _ (past (goal.at.returns c).Else-no-ne0) c.if-out-k.false _ c.count_entries.ensures
