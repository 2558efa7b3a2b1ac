-- `finite::any_unfit` meets its contract: a number more, and the end. Assumes nothing.
use lib.Ieee.{nan}
use Rattle.base.proofs.Scan.{flag-step, flag-end}
use Rattle.color_doubles.proofs.finite.any_unfit.Goals as goal

pub loop-x-preserved : goal.loop-x-preserved
loop-x-preserved c = flag-step nan c.loop-x.invariant c.loop-x-test.true c.is_unfit.ensures c.either-bad.ensures

pub returns : goal.returns
returns c = flag-end c.loop-x.invariant c.loop-x-test.false
