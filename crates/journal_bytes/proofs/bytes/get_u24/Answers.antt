-- `bytes::get_u24` meets its contract: the number is made of its bytes, the lowest first. Assumes nothing.
use Rattle.std.proofs.Common.{◌+◌, arith}
use Rattle.journal_record.proofs.LittleEndian.{le_at-three}
use Rattle.journal_bytes.proofs.bytes.get_u24.Goals as goal

pub returns : goal.returns
returns c =
    let at = c.args.at in
    (omega (arith, le_at-three c.args.src.now at (omega arith)), omega (arith, c.type_inv.src at, c.type_inv.src (at + 1), c.type_inv.src (at + 2)))
