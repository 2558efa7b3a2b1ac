-- `find::counted` meets its contract: the count is tested, and then the record with it. Assumes nothing.
use Rattle.journal_record.proofs.Finding.{counted-short}
use Rattle.journal_find.proofs.find.counted.Goals as goal

pub returns-then-bytes-fixed : goal.returns-then-bytes-fixed
returns-then-bytes-fixed c = counted-short _ _ _ _ _ _ c.if-bytes-fixed.true
