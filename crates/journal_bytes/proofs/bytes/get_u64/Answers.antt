-- `bytes::get_u64` meets its contract: four bytes, and 2^32 times the next four. Assumes nothing.
use Rattle.std.proofs.Common.{◌+◌, add_assoc, arith}
use Rattle.journal_record.proofs.LittleEndian.{le_at-add, le_at-four}
use Rattle.journal_bytes.proofs.bytes.get_u64.Goals as goal

pub returns : goal.returns
returns c =
    let s = c.args.src.now in
    let at = c.args.at in
    let high = simp add_assoc at (le_at-four s (at + 4) (omega arith)) in
    omega (arith, le_at-add s at 4 4 (omega arith), le_at-four s at (omega arith), high)
