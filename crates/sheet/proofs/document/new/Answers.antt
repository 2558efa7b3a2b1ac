-- `new`: the limits, the marks' number, the indices, then the LAB and the marks of the k entries. Assumes nothing.
use mathlib.Core.Path.{refl, sym, ◌∙◌}
use native.Mathlib.Omega.{arith}
use Rattle.base.specs.Checks.{first_of}
use Rattle.sheet.specs.Sheet.{sheet_of}
use Rattle.sheet.specs.Checks.{Limits}
use Rattle.sheet.specs.Document.{new_lab}
use Rattle.sheet.proofs.Answers.{new-limits, new-marks, new-stray, new-done}
use Rattle.sheet.proofs.document.new.Goals as goal
use Rattle.sheet.proofs.document.new.Goals.{Else-no-ne0}

-- past the first test the limits hold
past : (c : Else-no-ne0) → let a = c.args in Limits (sheet_of a.w a.h a.k a.palette.now a.lab.now a.indices.now)
past c = c.limits_no-no.ensures.fine c.if-no-ne0.false

pub returns-then-no-ne0 : goal.returns-then-no-ne0
returns-then-no-ne0 c = new-limits _ _ _ c.limits_no-no.ensures c.if-no-ne0.true

pub returns-then-locks-ne-MAX_ENTRIES : goal.returns-then-locks-ne-MAX_ENTRIES
returns-then-locks-ne-MAX_ENTRIES c = new-marks _ _ (past (goal.at.returns-then-locks-ne-MAX_ENTRIES c).Else-no-ne0) c.if-locks-ne-MAX_ENTRIES.true

pub any_stray-requires : goal.any_stray-requires
any_stray-requires c = (past (goal.at.any_stray-requires c).Else-no-ne0).k-small

pub returns-then-any_stray : goal.returns-then-any_stray
returns-then-any_stray c = new-stray _ _ (past (goal.at.returns-then-any_stray c).Else-no-ne0) c.if-locks-ne-MAX_ENTRIES.false (sym c.any_stray.ensures ∙ c.if-any_stray.true)

pub fill_labs-requires : goal.fill_labs-requires
unfolding first_of
fill_labs-requires c = let l = past (goal.at.fill_labs-requires c).Else-no-ne0 in (omega arith, omega arith, refl)

pub returns : goal.returns
unfolding new_lab
returns c =
    new-done _ _ (past (goal.at.returns c).Else-no-ne0) c.if-locks-ne-MAX_ENTRIES.false (sym c.any_stray.ensures ∙ c.if-any_stray.false) _ _ c.fill_labs.ensures c.clear_locks.ensures
