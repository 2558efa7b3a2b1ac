-- `journal_need`: the checks, the copy, the play. Assumes nothing.
use Rattle.history_model.specs.Document.{document_of}
use Rattle.sheet_lent.specs.Lent.{lent_of}
use Rattle.need_model.specs.Judged.{NeedJudged}
use Rattle.need_model.proofs.Judging.{need-refused}
use Rattle.need.proofs.Judging.{need-full, need-told, copied}
use mathlib.Core.Path.{◌≡◌}
use lib.ListN.{length}
use Rattle.need.proofs.needing.journal_need.Goals as goal
use Rattle.need.proofs.needing.journal_need.Goals.{Else-no-ne0, After-copy_from_slice-4}

-- past the first test none of the checks before the play applies
j1 : (c : Else-no-ne0) → let a = c.args in NeedJudged (document_of a.w a.h a.k a.palette.now a.lab.now a.indices.now a.locks.now) a.text.now (lent_of a.work_w a.work_h a.work_palette.now a.work_lab.now a.work_indices.now a.work_locks.now) (length a.journal.now) (length a.list.now) (length a.scratch.now) 0
j1 c = rw c.if-no-ne0.false at c.need_no-no.ensures

-- the working sheet is a copy of the opening one
copies : (c : After-copy_from_slice-4) → (c.copy_from_slice.new.self ≡ c.args.palette.now) × (c.copy_from_slice-2.new.self ≡ c.args.lab.now)
    × (c.copy_from_slice-3.new.self ≡ c.args.indices.now) × (c.copy_from_slice-4.new.self ≡ c.args.locks.now)
copies c =
    (c.copy_from_slice.ensures.after, c.copy_from_slice-2.ensures.after, c.copy_from_slice-3.ensures.after, c.copy_from_slice-4.ensures.after)

pub returns-then-no-ne0 : goal.returns-then-no-ne0
returns-then-no-ne0 c = need-refused _ _ _ _ _ _ _ _ c.need_no-no.ensures c.if-no-ne0.true

pub returns-then-p : goal.returns-then-p
returns-then-p c = need-full _ _ _ _ _ _ _ (j1 (goal.at.returns-then-p c).Else-no-ne0) (copied (copies (goal.at.returns-then-p c).After-copy_from_slice-4) c.play_all-p.ensures) c.if-p.true

pub returns : goal.returns
returns c = need-told _ _ _ _ _ _ _ (j1 (goal.at.returns c).Else-no-ne0) (copied (copies (goal.at.returns c).After-copy_from_slice-4) c.play_all-p.ensures) c.if-p.false
