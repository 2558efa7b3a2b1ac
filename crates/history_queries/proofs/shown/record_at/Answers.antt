-- `record_at`: the edit, and where its changes lie. Assumes nothing.
use Rattle.journal_read.proofs.Rooms.{lies-bare}
use Rattle.history_queries.proofs.shown.record_at.Goals as goal

pub edit_at-edit-requires : goal.edit_at-edit-requires
edit_at-edit-requires c = lies-bare _ _ _ c.requires.0
