-- `redo_record`: the list painted, the marks moved, then the rest done. Assumes nothing.
use Prim.Native.Nat.{◌+◌, ◌*◌, ◌≤◌}
use lib.ListN.{length}
use Rattle.journal_record.specs.Record.{stride}
use Rattle.journal_read.proofs.Rooms.{lies-bare, read-room}
use Rattle.journal_redo.proofs.RedoneAt.{list-paints, rest-finishes, redone-by, marks-move, marks-done}
use Rattle.journal_redo.proofs.redo.redo_record.Goals as goal
use Rattle.journal_redo.proofs.redo.redo_record.Goals.{After-list_offset}

-- the list stands in the journal
room : (c : After-list_offset) → let a = c.args in a.start + c.list_offset.result + stride a.form * a.count ≤ length a.journal.now
room c = read-room c.requires.lies c.edit_at-edit.ensures c.list_of-list.ensures c.list_offset.ensures

pub edit_at-edit-requires : goal.edit_at-edit-requires
edit_at-edit-requires c = lies-bare _ _ _ c.requires.lies

pub paint_list_in-requires : goal.paint_list_in-requires
paint_list_in-requires c = (room (goal.at.paint_list_in-requires c).After-list_offset, list-paints c.requires.lies c.edit_at-edit.ensures c.list_of-list.ensures c.list_offset.ensures c.requires.redoable)

pub redo_locks-requires : goal.redo_locks-requires
redo_locks-requires c = marks-move c.requires.lies c.edit_at-edit.ensures c.list_of-list.ensures c.list_offset.ensures c.requires.redoable c.requires.locks_len.0

pub finish_edit-requires : goal.finish_edit-requires
finish_edit-requires c = record { finishable = rest-finishes c.requires.lies c.edit_at-edit.ensures c.list_of-list.ensures c.list_offset.ensures c.requires.redoable; curve_fits = c.requires.locks_len.1 }

pub returns : goal.returns
returns c = record { by_index = λ h. redone-by c.requires.lies c.edit_at-edit.ensures c.list_of-list.ensures c.list_offset.ensures _ _ h _ _ _ _ c.paint_list_in.ensures (c.finish_edit.ensures _ h); locks_after = marks-done c.requires.lies c.edit_at-edit.ensures c.list_of-list.ensures c.list_offset.ensures _ _ c.redo_locks.ensures }
