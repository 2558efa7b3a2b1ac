-- `write::put_change` meets its contract: by forms. Assumes nothing.
use Rattle.journal_write.proofs.Changes.{change-bytes}
use Rattle.journal_write.proofs.write.put_change.Goals as goal

pub returns-in-Coordinates : goal.returns-in-Coordinates
returns-in-Coordinates c = rw (c.in-Coordinates.is, change-bytes) c.put_u64.ensures
