-- `rewrite::copy`: each turn copies one byte more. Assumes nothing.
use mathlib.Core.Path.{◌≡◌}
use native.Mathlib.Omega.{arith}
use Rattle.journal_raw.proofs.Rewriting.{put-none, copy-next}
use Rattle.journal_raw.proofs.rewrite.copy.Goals as goal

pub loop-i-init : goal.loop-i-init
loop-i-init c = put-none _ _

pub loop-i-preserved : goal.loop-i-preserved
loop-i-preserved c = copy-next _ _ _ _ _ c.args.n _ c.requires.0 c.requires.1 c.loop-i-test.true c.loop-i.invariant

pub returns : goal.returns
returns c = let n-is : c.loop-i.i ≡ c.args.n = omega arith in
    rw n-is at c.loop-i.invariant.is
