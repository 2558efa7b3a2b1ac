-- `write::write_set` meets its contract: kind and index, the colours, LAB and the length one behind the other. Assumes nothing.
use Rattle.journal_write.proofs.Written.{set-written}
use Rattle.journal_write.proofs.write.write_set.Goals as goal

pub returns : goal.returns
returns c f w =
    set-written _ f w _ _ _ _ _ _ _ _ _ c.put_kind.ensures c.put_rgb.ensures c.put_rgb-2.ensures c.put_lab.ensures c.put_u32.ensures
