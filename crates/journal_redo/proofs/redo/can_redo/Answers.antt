-- `can_redo`: 21, then the checks before the list, of the list, and after it. Assumes nothing.
use mathlib.Core.Path.{◌≡◌}
use Prim.Native.Nat.{ℕ, ◌+◌, ◌*◌, ◌≤◌}
use native.Mathlib.Omega.{arith}
use lib.ListN.{length}
use Rattle.edit_checks.specs.Marks.{Checkable}
use Rattle.journal_record.specs.Record.{stride}
use Rattle.journal_read.proofs.Rooms.{lies-bare, list-markable, read-list, read-room}
use Rattle.journal_redo.proofs.Redos.{too_many, head-refused, list-refused, left-decides}
use Rattle.journal_redo.proofs.redo.can_redo.Goals as goal
use Rattle.journal_redo.proofs.redo.can_redo.Goals.{After-list_offset}

-- the list stands in the journal, and a removal's marks in a scratch that has a byte a pixel
room : (c : After-list_offset) → let a = c.args in a.start + c.list_offset.result + stride a.form * a.count ≤ length a.journal.now
room c = read-room c.requires.lies c.edit_at-edit.ensures c.list_of-list.ensures c.list_offset.ensures

checkable : (c : After-list_offset) (m : ℕ) → let a = c.args in a.w * a.h ≤ m → Checkable c.list_of-list.result a.w a.h (length a.indices.now) m
checkable c m h =
    let byte = c.type_inv.journal (c.args.start + 1) in
    record {
      pixels = c.requires.indices_len.0;
      markable = rw (read-list c.requires.lies c.edit_at-edit.ensures c.list_of-list.ensures c.list_offset.ensures) (list-markable _ _ _ _ _ c.requires.lies (omega arith) _ m h);
    }

pub returns-then-count-gt-MAX_CHANGES : goal.returns-then-count-gt-MAX_CHANGES
returns-then-count-gt-MAX_CHANGES c lab = too_many c.requires.lies _ _ c.if-count-gt-MAX_CHANGES.true

pub edit_at-edit-requires : goal.edit_at-edit-requires
edit_at-edit-requires c = lies-bare _ _ _ c.requires.lies

pub returns-then-head_no-ne0 : goal.returns-then-head_no-ne0
returns-then-head_no-ne0 c lab = head-refused c.requires.lies _ _ c.if-count-gt-MAX_CHANGES.false c.edit_at-edit.ensures (c.head_no.ensures _ _ lab _) c.if-head_no-ne0.true

pub check_list_in-requires : goal.check_list_in-requires
check_list_in-requires c = record { checkable = checkable (goal.at.check_list_in-requires c).After-list_offset _ (omega arith); n_in_bounds = room (goal.at.check_list_in-requires c).After-list_offset }

pub returns-then-check_list_in-ne0 : goal.returns-then-check_list_in-ne0
returns-then-check_list_in-ne0 c lab =
    list-refused c.requires.lies _ _ c.if-count-gt-MAX_CHANGES.false c.edit_at-edit.ensures (c.head_no.ensures _ _ lab _) c.if-head_no-ne0.false c.list_of-list.ensures
    c.list_offset.ensures c.check_list_in.ensures.0 c.if-check_list_in-ne0.true

pub left_no-requires : goal.left_no-requires
left_no-requires c =
    let listed : length c.check_list_in.new.marks ≡ length c.clear_marks.new.marks = c.check_list_in.auto.marks in
    let cleared : length c.clear_marks.new.marks ≡ length c.args.marks.now = c.clear_marks.auto.marks in
    checkable (goal.at.left_no-requires c).After-list_offset _ (omega (arith, c.requires.indices_len.1))

pub returns : goal.returns
returns c lab =
    let checked = c.check_list_in.ensures in
    let passed = c.if-check_list_in-ne0.false in
    left-decides c.requires.lies _ _ c.if-count-gt-MAX_CHANGES.false c.edit_at-edit.ensures (c.head_no.ensures _ _ lab _) c.if-head_no-ne0.false c.list_of-list.ensures
    c.list_offset.ensures checked.0 passed (c.left_no.ensures _ (checked.1 passed (rw c.requires.indices_len.0 at c.clear_marks.ensures)))
