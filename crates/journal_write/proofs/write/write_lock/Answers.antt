-- `write::write_lock` meets its contract: kind and index, the marks and the length one behind the other. Assumes nothing.
use Rattle.journal_write.proofs.Written.{lock-written}
use Rattle.journal_write.proofs.write.write_lock.Goals as goal

pub returns : goal.returns
returns c f w =
    lock-written _ f w _ _ _ _ _ _ c.put_kind.ensures c.put_marks.ensures c.put_u32.ensures
