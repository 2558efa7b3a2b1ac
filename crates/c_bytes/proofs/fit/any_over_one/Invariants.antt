-- `any_over_one`: a scan. Assumes nothing.
use lib.Dec.{ltb}
use Rattle.base.proofs.Scan.{Flagged}
use Rattle.c_bytes.proofs.fit.any_over_one.Given as goal

abbrev pub invariant-loop-byte : goal.invariant-loop-byte
invariant-loop-byte l = Flagged (ltb 1) l.bytes l.byte-index l.bad
