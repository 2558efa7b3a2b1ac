-- `copy`: the first i so far. Assumes nothing.
use Rattle.base.proofs.Over.{over_none}
use Rattle.sheet_lent.proofs.Copied.{copied_next, copied_all}
use Rattle.sheet_lent.proofs.copying.copy.Goals as goal

pub loop-i-init : goal.loop-i-init
loop-i-init g c = over_none _

pub loop-i-preserved : goal.loop-i-preserved
loop-i-preserved g c =
    let next = copied_next c.args.from.now c.args.to.now c.loop-i.i c.loop-i.invariant c.index-from-i.result c.loop-i-test.true c.requires in
    cc (next, c.index-from-i.is)

pub returns : goal.returns
returns g c = copied_all _ _ _ c.loop-i.invariant c.loop-i.auto.i-end c.loop-i-test.false c.requires
