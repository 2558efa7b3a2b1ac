-- `need_no`: each test in order. Assumes nothing.
use Rattle.sheet.specs.Sheet.{sheet_of}
use Rattle.sheet.specs.Checks.{MarkedJudged}
use Rattle.sheet_lent.specs.Lent.{lent_of, LentJudged}
use Rattle.need_model.proofs.Judging.{judged-long, judged-sheet, judged-lent, judged-unread, judged-list, judged-scratch, judged-fine}
use mathlib.Core.Path.{refl, sym, ◌∙◌}
use native.Mathlib.Omega.{arith}
use Rattle.need.proofs.checks.need_no.Goals as goal
use Rattle.need.proofs.checks.need_no.Goals.{Else-lent-ne0, Else-no-ne0}

-- past each test: the opening sheet, the working one
j2 : (c : Else-no-ne0) → let a = c.args in MarkedJudged (sheet_of a.w a.h a.k a.palette.now a.lab.now a.indices.now) a.locks.now 0
j2 c = rw c.if-no-ne0.false at c.check_marked-no.ensures

l3 : (c : Else-lent-ne0) → let a = c.args in LentJudged a.w a.h (lent_of a.work_w a.work_h a.work_palette.now a.work_lab.now a.work_indices.now a.work_locks.now) 0
l3 c = rw c.if-lent-ne0.false at c.lent_no-lent.ensures

pub returns-then-journal-gt-MAX_JOURNAL : goal.returns-then-journal-gt-MAX_JOURNAL
returns-then-journal-gt-MAX_JOURNAL c = judged-long _ _ _ _ _ _ c.if-journal-gt-MAX_JOURNAL.true

pub returns-then-no-ne0 : goal.returns-then-no-ne0
returns-then-no-ne0 c = judged-sheet _ _ _ _ _ _ c.if-journal-gt-MAX_JOURNAL.false _ c.check_marked-no.ensures c.if-no-ne0.true

pub returns-then-lent-ne0 : goal.returns-then-lent-ne0
returns-then-lent-ne0 c = judged-lent _ _ _ _ _ _ c.if-journal-gt-MAX_JOURNAL.false (j2 (goal.at.returns-then-lent-ne0 c).Else-no-ne0) _ c.lent_no-lent.ensures c.if-lent-ne0.true

pub returns-then-any_unread : goal.returns-then-any_unread
returns-then-any_unread c = judged-unread _ _ _ _ _ _ c.if-journal-gt-MAX_JOURNAL.false (j2 (goal.at.returns-then-any_unread c).Else-no-ne0) (l3 (goal.at.returns-then-any_unread c).Else-lent-ne0) (sym c.any_unread.ensures ∙ c.if-any_unread.true)

pub returns-then-list-n : goal.returns-then-list-n
returns-then-list-n c = judged-list _ _ _ _ _ _ c.if-journal-gt-MAX_JOURNAL.false (j2 (goal.at.returns-then-list-n c).Else-no-ne0) (l3 (goal.at.returns-then-list-n c).Else-lent-ne0) (sym c.any_unread.ensures ∙ c.if-any_unread.false) (omega (arith, c.if-list-n.true, ((j2 (goal.at.returns-then-list-n c).Else-no-ne0).fine refl).formed.limits.indices-length))

pub returns-then-scratch-n : goal.returns-then-scratch-n
returns-then-scratch-n c = judged-scratch _ _ _ _ _ _ c.if-journal-gt-MAX_JOURNAL.false (j2 (goal.at.returns-then-scratch-n c).Else-no-ne0) (l3 (goal.at.returns-then-scratch-n c).Else-lent-ne0) (sym c.any_unread.ensures ∙ c.if-any_unread.false) (omega (arith, c.if-list-n.false, ((j2 (goal.at.returns-then-scratch-n c).Else-no-ne0).fine refl).formed.limits.indices-length)) (omega (arith, c.if-scratch-n.true, ((j2 (goal.at.returns-then-scratch-n c).Else-no-ne0).fine refl).formed.limits.indices-length))

pub returns : goal.returns
returns c = judged-fine _ _ _ _ _ _ c.if-journal-gt-MAX_JOURNAL.false (j2 (goal.at.returns c).Else-no-ne0) (l3 (goal.at.returns c).Else-lent-ne0) (sym c.any_unread.ensures ∙ c.if-any_unread.false) (omega (arith, c.if-list-n.false, ((j2 (goal.at.returns c).Else-no-ne0).fine refl).formed.limits.indices-length)) (omega (arith, c.if-scratch-n.false, ((j2 (goal.at.returns c).Else-no-ne0).fine refl).formed.limits.indices-length))
