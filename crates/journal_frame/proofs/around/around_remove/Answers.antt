-- `around_remove`: kind and index, colour, LAB, count and length. Assumes nothing.
use Rattle.journal_frame.proofs.Framing.{remove-around}
use Rattle.journal_frame.proofs.around.around_remove.Goals as goal

pub returns : goal.returns
returns c =
    let number = rw c.remove_kind.ensures at c.put_kind.ensures in
    let bytes = c.list_bytes-bytes.ensures.0 in
    remove-around _ _ _ _ _ _ _ _ _ _ _ number c.put_rgb.ensures c.put_lab.ensures c.put_u32.ensures (rw bytes at c.put_u32-2.ensures)
