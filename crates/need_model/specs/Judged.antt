-- What `journal_need` answers, and what its checks before the play leave to know. Definitions only. Assumes nothing.
use Rattle.std.specs.Prelude.{◌≡◌, List, ℕ, ◌*◌, ◌≤◌}
use Rattle.base.specs.Limits.{max_journal}
use Rattle.base.specs.Checks.{first_of}
use Rattle.base.specs.Answer.{Told}
use Rattle.base.specs.Answer.Told.{result, alone}
use Rattle.base.specs.declared.Need.{Need}
use Rattle.base.specs.declared.Need.TheVariants as need
use Rattle.sheet.specs.Checks.{Marked}
use Rattle.sheet_lent.specs.Lent.{Lent, LentFits}
use Rattle.history_model.specs.Document.{Document, Shown, document_checks}
use Rattle.need_model.specs.Need.{Needed, needed, need_checks}

-- the need, and the picture of the working sheet at its palette count
abbrev pub need_told : Need → (ℕ → Shown) → Told Needed
need_told (need.Bytes n k) picture = result (needed n (picture k))
need_told (need.Refused n) picture = alone n

-- what a caller knows where none of the checks before the play applies
pub record NeedFits (d : Document) (x : Lent) (journal list scratch : ℕ) : Type 0 where
  pub sheet : Marked d.sheet d.locks
  pub fine : first_of (document_checks d) ≡ 0
  pub working : LentFits d.sheet.w d.sheet.h x
  pub permitted : journal ≤ max_journal
  pub listed : d.sheet.w * d.sheet.h ≤ list
  pub roomy : d.sheet.w * d.sheet.h ≤ scratch

pub record NeedJudged (d : Document) (text : List ℕ) (x : Lent) (journal list scratch n : ℕ) : Type 0 where
  pub value : n ≡ first_of (need_checks d text x journal list scratch)
  pub fits : n ≡ 0 → NeedFits d x journal list scratch
