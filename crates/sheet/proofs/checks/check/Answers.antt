-- `check`: the limits, then the two scans. Assumes nothing.
use mathlib.Core.Path.{◌≡◌, sym, ◌∙◌}
use native.Mathlib.Omega.{arith}
use mathlib.Core.Bool.{false}
use Rattle.base.specs.Lists.{some}
use Rattle.sheet.specs.Sheet.{sheet_of, stray}
use Rattle.sheet.specs.Checks.{Limits}
use Rattle.sheet.proofs.Judging.{judged-limits, judged-index, judged-lab, judged-fine}
use Rattle.sheet.proofs.checks.check.Goals as goal
use Rattle.sheet.proofs.checks.check.Goals.{Else-any_stray, Else-no-ne0}

-- past the first test the limits hold
past : (c : Else-no-ne0) → let a = c.args in Limits (sheet_of a.w a.h a.k a.palette.now a.lab.now a.indices.now)
past c = c.limits_no-no.ensures.fine c.if-no-ne0.false

-- past the second the indices are in range
ranged : (c : Else-any_stray) → let a = c.args in some (stray a.k) a.indices.now ≡ false
ranged c = sym c.any_stray.ensures ∙ c.if-any_stray.false

pub returns-then-no-ne0 : goal.returns-then-no-ne0
returns-then-no-ne0 c = judged-limits _ _ c.limits_no-no.ensures c.if-no-ne0.true

pub any_stray-requires : goal.any_stray-requires
any_stray-requires c = (past c).k-small

pub returns-then-any_stray : goal.returns-then-any_stray
returns-then-any_stray c = judged-index _ (past (goal.at.returns-then-any_stray c).Else-no-ne0) (sym c.any_stray.ensures ∙ c.if-any_stray.true)

pub overflow_mul-n : goal.overflow_mul-n
overflow_mul-n c = omega (arith, past (goal.at.overflow_mul-n c).Else-no-ne0)

pub returns-then-any_unfit : goal.returns-then-any_unfit
returns-then-any_unfit c =
    judged-lab _ (past (goal.at.returns-then-any_unfit c).Else-no-ne0) (ranged (goal.at.returns-then-any_unfit c).Else-any_stray) (sym c.any_unfit.ensures ∙ c.if-any_unfit.true)

pub returns : goal.returns
returns c =
    judged-fine _ (record { limits = past (goal.at.returns c).Else-no-ne0; in-range = ranged (goal.at.returns c).Else-any_stray; fit = sym c.any_unfit.ensures ∙ c.if-any_unfit.false })
