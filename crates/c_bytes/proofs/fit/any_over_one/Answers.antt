-- `any_over_one`: a scan. Assumes nothing.
use mathlib.Core.Path.{refl}
use Rattle.base.proofs.Scan.{flag-step, flag-end}
use Rattle.c_bytes.proofs.fit.any_over_one.Goals as goal

pub loop-byte-preserved : goal.loop-byte-preserved
loop-byte-preserved c = flag-step 0 c.loop-byte.invariant c.loop-byte-test.true refl c.either-bad.ensures

pub returns : goal.returns
returns c = flag-end c.loop-byte.invariant c.loop-byte-test.false
