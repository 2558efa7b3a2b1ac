-- `take_all`: the first i are read. Assumes nothing.
use native.Mathlib.Omega.{arith}
use Rattle.c_form.proofs.Fields.{reads_none, reads-next, reads_all}
use Rattle.c_bytes.proofs.read.take_all.Goals as goal

pub loop-i-init : goal.loop-i-init
loop-i-init g c = reads_none _ _ _ _ _

pub loop-i-preserved : goal.loop-i-preserved
loop-i-preserved g c =
    reads-next _ _ _ _ _ _ c.loop-i.i c.loop-i.invariant _ (omega arith) (rw c.SIZE.ensures at c.get.ensures)

pub returns : goal.returns
returns g c = reads_all _ _ _ _ _ _ c.loop-i.i c.loop-i.invariant (omega arith)
