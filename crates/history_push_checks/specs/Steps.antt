-- What the steps of `push` say to each other: the steps before its list, and after it, do not see the list, so that they speak of every list of as many
-- changes. Definitions only. Assumes nothing.
use Rattle.std.specs.Prelude.{◌≡◌, Bool, false, cond, List, ℕ, ◌+◌, ◌*◌, ◌≤◌, ltb, length}
use Rattle.base.specs.Limits.{max_changes}
use Rattle.base.specs.Numbers.{journal_full}
use Rattle.base.specs.Checks.{or_else, first_of, refused_or}
use Rattle.base.specs.declared.Edit.{Edit}
use Rattle.base.specs.declared.Form.{Form}
use Rattle.color_curve.specs.Curve.{Curve}
use Rattle.edit.specs.List.{list_of, empty_pixels}
use Rattle.edit.specs.Checks.{head_checks}
use Rattle.edit_checks.specs.Marks.{ClearFor}
use Rattle.journal_record.specs.Record.{record_length}
use Rattle.history_ledger.specs.Calls.{Outcome, done, still, refused}
use Rattle.history_ledger.specs.Journal.{State, entry_checks, pushChecks}
use Rattle.history_model.specs.Document.{Document}
use Rattle.history_model.specs.Editing.{Given, editing_by}
use Rattle.history_model.specs.Calls.{Standing, Acceptable}

-- ""still" for an empty pixel list"
abbrev pub is_still : Given → Bool
is_still g = empty_pixels (list_of g.edit) (length g.changes)

-- "1, 2, 3, 4; "still" for an empty pixel list; 21, 16, its own, 14", 25 after 4, in one number
unfoldable pub push_number : Form → Curve → ℕ → State Document → Given → ℕ
push_number f c room st g =
    or_else (first_of (entry_checks (editing_by f c) st g)) (cond (is_still g) 0 (first_of (pushChecks (editing_by f c) room st g)))

-- a push after that number
unfoldable pub pushed_or : ℕ → Bool → State Document → State Document → Outcome (State Document)
pushed_or n empty st after = refused_or n (refused st) (cond empty (still st) (done after))

-- before its list: a number other than 0 is the call's; with 0 nothing of 1 to 4 and 25 applies and, where the push is not still, none of the checks before the list
pub record Readied (room : ℕ) (st : State Document) (g : Given) (marks : List ℕ) : Type 0 where
  pub short : length g.changes ≤ max_changes
  pub enough : length st.sheet.sheet.indices ≤ room
  pub head : first_of (head_checks false st.sheet.sheet st.sheet.locks g.permitted g.edit) ≡ 0
  pub clear : ClearFor (list_of g.edit) (st.sheet.sheet.w * st.sheet.sheet.h) marks

pub record Begun (f : Form) (c : Curve) (room : ℕ) (st : State Document) (g : Given) (n : ℕ) (marks : List ℕ) : Type 0 where
  pub refuses : (n ≡ 0 → ⊥) → n ≡ push_number f c room st g
  pub entered : n ≡ 0 → first_of (entry_checks (editing_by f c) st g) ≡ 0
  pub stands : n ≡ 0 → Standing st
  pub readied : n ≡ 0 → is_still g ≡ false → Readied room st g marks

-- after its list: 14, of a journal of `size` bytes
abbrev pub full_number : Form → ℕ → Edit → ℕ → ℕ → ℕ
full_number f offset e n size = cond (empty_pixels (list_of e) n) 0 (cond (ltb size (offset + record_length f e n)) journal_full 0)

-- the number, and what 0 means
pub record PushNumbered (f : Form) (c : Curve) (room : ℕ) (st : State Document) (g : Given) (n : ℕ) : Type 0 where
  pub value : n ≡ push_number f c room st g
  pub stands : n ≡ 0 → Standing st
  pub fine : n ≡ 0 → is_still g ≡ false → Acceptable f st g.edit g.changes
