-- `around_pixels`: kind and tool, count and length. Assumes nothing.
use Rattle.journal_frame.proofs.Framing.{pixels-around}
use Rattle.journal_frame.proofs.around.around_pixels.Goals as goal

pub returns : goal.returns
returns c =
    let number = rw c.pixels_kind.ensures at c.put_kind.ensures in
    let bytes = c.list_bytes-bytes.ensures.0 in
    pixels-around _ _ _ _ _ _ _ number c.put_u32.ensures (rw bytes at c.put_u32-2.ensures)
