-- `bytes::get_u16` meets its contract: the number is made of its bytes, the lowest first. Assumes nothing.
use Rattle.std.proofs.Common.{arith}
use Rattle.journal_record.proofs.LittleEndian.{le_at-two}
use Rattle.journal_bytes.proofs.bytes.get_u16.Goals as goal

pub returns : goal.returns
returns c = (omega (arith, le_at-two c.args.src.now c.args.at (omega arith)), omega arith)
