-- `mark_used`: i colours are marked. Assumes nothing.
use native.Mathlib.Omega.{arith}
use Rattle.palette_model.proofs.Used.{used-none, used-next, used_all}
use Rattle.palette.proofs.colours.mark_used.Goals as goal

pub loop-i-init : goal.loop-i-init
loop-i-init c = used-none _ _ _

pub loop-i-preserved : goal.loop-i-preserved
loop-i-preserved c = used-next _ _ _ _ _ _ c.loop-i.invariant (omega arith) c.used_mark.ensures

pub returns : goal.returns
returns c = used_all _ _ _ _ _ _ c.loop-i.invariant c.loop-i.auto.i-end c.loop-i-test.false
