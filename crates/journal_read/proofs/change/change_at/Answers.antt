-- `change_at`: by forms. Assumes nothing.
use Rattle.journal_record.specs.Record.{change_in}
use Rattle.journal_read.specs.Number.{change_of}
use Rattle.journal_read.proofs.change.change_at.Goals as goal

pub returns-in-Coordinates : goal.returns-in-Coordinates
unfolding change_of change_in
returns-in-Coordinates c w =
    let e = c.in-Coordinates.is in
    rw e (rw (c.get_u64.ensures, c.list_bytes.ensures.0, e))
