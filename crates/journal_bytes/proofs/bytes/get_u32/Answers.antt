-- `bytes::get_u32` meets its contract: the number is made of its bytes, the lowest first. Assumes nothing.
use Rattle.std.proofs.Common.{arith}
use Rattle.journal_record.proofs.LittleEndian.{le_at-four}
use Rattle.journal_bytes.proofs.bytes.get_u32.Goals as goal

pub returns : goal.returns
returns c = omega (arith, le_at-four c.args.src.now c.args.at (omega arith))
