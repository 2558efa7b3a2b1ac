-- `rewrite::put_change`: by forms. Assumes nothing.
use Rattle.journal_record.specs.Record.{change_in}
use Rattle.journal_raw.proofs.rewrite.put_change.Goals as goal

pub returns-in-Coordinates : goal.returns-in-Coordinates
unfolding change_in
returns-in-Coordinates c = rw c.in-Coordinates.is (rw c.get_u64.ensures at c.put_change.ensures)
