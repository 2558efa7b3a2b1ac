-- `diff_mask`: 1 to 3, the baseline's 1 and 2, then 16, then one pass over both lists of indices. Assumes nothing.
use mathlib.Core.Path.{refl, sym, subst, ◌∙◌}
use Rattle.sheet.specs.Sheet.{sheet_of}
use Rattle.sheet.specs.Checks.{WellFormed}
use Rattle.sheet_diff.specs.Mask.{baseline_of, Based}
use Rattle.sheet.proofs.Strays.{stray-more}
use Rattle.sheet_diff.proofs.Answers.{diff-refused, diff-based, diff-short, diff-done}
use Rattle.sheet_diff.proofs.masking.diff_mask.Goals as goal
use Rattle.sheet_diff.proofs.masking.diff_mask.Goals.{Else-base_no-ne0, Else-no-ne0}

-- past the first test the sheet is well-formed
past : (c : Else-no-ne0) → let a = c.args in WellFormed (sheet_of a.w a.h a.k a.palette.now a.lab.now a.indices.now)
past c = c.check-no.ensures.fine c.if-no-ne0.false

-- past the second the baseline fits
based : (c : Else-base_no-ne0) → let a = c.args in Based a.w a.h (baseline_of a.base_w a.base_h a.base_k a.base.now a.base_indices.now) 0
based c = subst (Based _ _ _) c.if-base_no-ne0.false c.baseline_no-base_no.ensures

pub returns-then-no-ne0 : goal.returns-then-no-ne0
returns-then-no-ne0 c = diff-refused _ _ _ _ c.check-no.ensures c.if-no-ne0.true

pub returns-then-base_no-ne0 : goal.returns-then-base_no-ne0
returns-then-base_no-ne0 c = diff-based _ _ _ (past (goal.at.returns-then-base_no-ne0 c).Else-no-ne0) _ c.baseline_no-base_no.ensures c.if-base_no-ne0.true

pub returns-then-mask-indices : goal.returns-then-mask-indices
returns-then-mask-indices c = diff-short _ _ _ (past (goal.at.returns-then-mask-indices c).Else-no-ne0) (based (goal.at.returns-then-mask-indices c).Else-base_no-ne0) c.if-mask-indices.true

pub mark_differences-requires : goal.mark_differences-requires
mark_differences-requires c =
    let f = past (goal.at.mark_differences-requires c).Else-no-ne0 in
    let d = (based (goal.at.mark_differences-requires c).Else-base_no-ne0).fine refl in (
      f.limits.palette-length,
      d.palette-length,
      stray-more _ 255 _ f.limits.k-small f.in-range,
      stray-more _ 255 _ d.k-small d.in-range,
      f.limits.indices-length ∙ sym d.indices-length,
      c.if-mask-indices.false,
    )

pub returns : goal.returns
returns c = diff-done _ _ _ (past (goal.at.returns c).Else-no-ne0) (based (goal.at.returns c).Else-base_no-ne0) c.if-mask-indices.false _ c.mark_differences.ensures
