-- `bytes::get_f64` meets its contract: bits are a NaN's exactly where they are above infinity's, the sign apart. Assumes nothing.
use lib.Ieee.{binary64}
use lib.Ieee.Bits.{nan_bits_above}
use borrow.Author.Tests.{lt-ltb, le-ltb}
use Rattle.journal_record.specs.Found.{real_of}
use Rattle.journal_record.specs.Record.{double_in}
use Rattle.journal_bytes.proofs.bytes.get_f64.Goals as goal

pub returns-then-bits-gt9218868437227405312 : goal.returns-then-bits-gt9218868437227405312
unfolding real_of
returns-then-bits-gt9218868437227405312 c = rw (← c.get_u64-bits.ensures, nan_bits_above binary64 c.get_u64-bits.result, lt-ltb _ _ c.if-bits-gt9218868437227405312.true)

pub float_from_bits-result : goal.float_from_bits-result
float_from_bits-result c = rw (nan_bits_above binary64 c.get_u64-bits.result, le-ltb _ _ c.if-bits-gt9218868437227405312.false) tt

pub returns : goal.returns
unfolding real_of double_in
returns c = rw (← c.get_u64-bits.ensures, nan_bits_above binary64 c.get_u64-bits.result, le-ltb _ _ c.if-bits-gt9218868437227405312.false)
