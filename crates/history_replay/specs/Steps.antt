-- What the steps of `replay` say to each other: the steps before its list, and after it, do not see the list, so that they speak of every list of as many
-- changes. Definitions only. Assumes nothing.
use Rattle.std.specs.Prelude.{◌≡◌, true, List, ℕ, ◌*◌, ◌≤◌}
use Rattle.base.specs.Checks.{first_of, refused_or}
use Rattle.color_curve.specs.Curve.{Curve}
use Rattle.sheet.specs.Checks.{Marked}
use Rattle.base.specs.declared.Edit.{Edit}
use Rattle.edit.specs.Change.{Change}
use Rattle.edit.specs.List.{list_of}
use Rattle.edit.specs.Checks.{Permitted, head_checks, own_checks}
use Rattle.edit_checks.specs.Marks.{ClearFor}
use Rattle.history_ledger.specs.Calls.{Outcome, done, refused}
use Rattle.history_model.specs.Document.{Document}
use Rattle.history_model.specs.Replay.{replay_checks}

-- before the list: a number other than 0 is the call's; with 0 the edit's own checks decide, none of those before the list applies, and a removal's marks are
-- clear
pub record Ready (c : Curve) (room : ℕ) (d : Document) (p : Permitted) (e : Edit) (cs : List Change) (marks : List ℕ) : Type 0 where
  pub marked : Marked d.sheet d.locks
  pub enough : d.sheet.w * d.sheet.h ≤ room
  pub head : first_of (head_checks true d.sheet d.locks p e) ≡ 0
  pub decides : first_of (own_checks true d.sheet d.locks p e cs) ≡ first_of (replay_checks c room d p e cs)
  pub clear : ClearFor (list_of e) (d.sheet.w * d.sheet.h) marks

pub record ReplayBegun (c : Curve) (room : ℕ) (d : Document) (p : Permitted) (e : Edit) (cs : List Change) (n : ℕ) (marks : List ℕ) : Type 0 where
  pub refuses : (n ≡ 0 → ⊥) → n ≡ first_of (replay_checks c room d p e cs)
  pub ready : n ≡ 0 → Ready c room d p e cs marks

-- a sheet and its marks after an edit that number n refuses, or that does this
unfoldable pub done_or : ℕ → Document → Document → Outcome Document
done_or n d after = refused_or n (refused d) (done after)
