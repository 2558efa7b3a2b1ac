-- `undo_record`: the marks moved, then the sheet reverted. Assumes nothing.
use Rattle.journal_read.proofs.Rooms.{lies-bare}
use Rattle.journal_undo.proofs.UndoKinds.{marks-undo}
use Rattle.journal_undo.proofs.undo.undo_record.Goals as goal

pub edit_at-requires : goal.edit_at-requires
edit_at-requires c = lies-bare _ _ _ c.requires.lies

pub undo_locks-requires : goal.undo_locks-requires
undo_locks-requires c =
    let p = c.requires in
    marks-undo _ _ _ c.edit_at.ensures _ _ p.well_formed.0 _ _ p.count_value _ p.well_formed.1
