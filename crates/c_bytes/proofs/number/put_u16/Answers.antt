-- `put_u16`: two stores in a row. Assumes nothing.
use native.Mathlib.Omega.{arith}
use native.Mathlib.Numerals.{add-one}
use lib.ListN.{length-set}
use Rattle.journal_record.specs.Bytes.{le}
use Rattle.journal_record.proofs.Splice.{splice-sets}
use Rattle.c_bytes.proofs.number.put_u16.Goals as goal

pub bounds-dst-at-2 : goal.bounds-dst-at-2
bounds-dst-at-2 c = simp length-set (omega arith)

pub returns : goal.returns
unfolding le
returns c = rw add-one (splice-sets (le 2 c.args.v) c.args.dst.now c.args.at (omega arith))
