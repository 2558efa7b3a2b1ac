-- `bytes::put_u64` meets its contract: std's bytes of a number are its eight lowest, the lowest first. Assumes nothing.
use Rattle.std.proofs.Common.{arith}
use Rattle.journal_bytes.proofs.Written.{splice-low_first}
use Rattle.journal_bytes.proofs.bytes.put_u64.Goals as goal

pub returns : goal.returns
returns c = splice-low_first _ _ _ 8 _ c.args.v (cc) (omega arith)
