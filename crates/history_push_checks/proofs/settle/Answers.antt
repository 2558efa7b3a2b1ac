-- `settle`: the number so far and 13, then 14. Assumes nothing.
use mathlib.Core.Path.{◌≡◌, sym, ◌∙◌}
use mathlib.Core.List.{List}
use Prim.Native.Nat.{◌*◌}
use Rattle.base.specs.Checks.{or_else, first_of}
use Rattle.edit.specs.Change.{Change}
use Rattle.edit.specs.List.{list_of, empty_pixels}
use Rattle.edit.specs.Checks.{left_checks}
use Rattle.edit_pixels.specs.Inside.{bare}
use Rattle.edit_checks.specs.Marks.{MarksFor}
use Rattle.edit_list.proofs.Deciding.{first-kept}
use Rattle.history_push_checks.proofs.PushSteps.{end-small, full-here, full-not}
use borrow.Author.Rules.{rules}
use Rattle.history_push_checks.proofs.settle.Goals as goal
use Rattle.history_push_checks.proofs.settle.Goals.{After-is_empty, After-left_no-left}

-- the number so far was 0, so that this is the number with 13
left : (c : After-left_no-left) → let a = c.args in (cs : List Change) → (a.no ≡ 0 → MarksFor (list_of a.edit) a.w (a.w * a.h) cs a.marks.now)
    → c.left_no-left.result ≡ or_else a.no (first_of (left_checks (bare a.w a.h 0 a.indices.now) (list_of a.edit) cs))
left c cs m = rw c.if-no-ne0.false ((rw c.list_of-kind.ensures at c.left_no-left.ensures) cs (m c.if-no-ne0.false))

empty : (c : After-is_empty) → c.is_empty.result ≡ empty_pixels (list_of c.args.edit) c.args.n
empty c = c.is_empty.ensures ∙ rw c.list_of-kind.ensures

pub returns-then-no-ne0 : goal.returns-then-no-ne0
returns-then-no-ne0 c cs m = sym (rw (first-kept _ _ c.if-no-ne0.true) (first-kept _ _ c.if-no-ne0.true))

pub left_no-left-requires : goal.left_no-left-requires
left_no-left-requires c = rw c.list_of-kind.ensures (c.requires.0 c.if-no-ne0.false)

pub returns-then-left-ne0 : goal.returns-then-left-ne0
returns-then-left-ne0 c cs m = rw (← left (goal.at.returns-then-left-ne0 c).After-left_no-left cs m) (sym (first-kept _ _ c.if-left-ne0.true))

pub returns-then-is_empty : goal.returns-then-is_empty
returns-then-is_empty c cs m = rw (← left (goal.at.returns-then-is_empty c).After-left_no-left cs m, c.if-left-ne0.false, ← empty (goal.at.returns-then-is_empty c).After-is_empty, c.if-is_empty.true)

pub record_length-requires : goal.record_length-requires
record_length-requires c = (c.requires.1 c.if-no-ne0.false).0

pub overflow_add-offset : goal.overflow_add-offset
overflow_add-offset c = let p = c.requires.1 c.if-no-ne0.false in record { fits = end-small _ _ _ _ _ p.1 p.0 c.record_length.ensures }

pub returns-then-size-offset : goal.returns-then-size-offset
returns-then-size-offset c cs m = rw (← left (goal.at.returns-then-size-offset c).After-left_no-left cs m, c.if-left-ne0.false) (full-here _ _ _ _ _ _ (sym (empty (goal.at.returns-then-size-offset c).After-is_empty) ∙ c.if-is_empty.false) c.record_length.ensures c.if-size-offset.true)

pub returns : goal.returns
returns c cs m = rw (← left (goal.at.returns c).After-left_no-left cs m, c.if-left-ne0.false) (full-not _ _ _ _ _ _ (sym (empty (goal.at.returns c).After-is_empty) ∙ c.if-is_empty.false) c.record_length.ensures c.if-size-offset.false)
