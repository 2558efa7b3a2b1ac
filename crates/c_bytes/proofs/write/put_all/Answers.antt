-- `put_all`: the first i are written. Assumes nothing.
use borrow.Author.Rules.{rules}
use Rattle.c_form.proofs.Fields.{writes-next, writes-all}
use Rattle.c_bytes.proofs.write.put_all.Goals as goal

pub loop-i-preserved : goal.loop-i-preserved
loop-i-preserved g c =
    let e = rw (c.SIZE.ensures, c.index-list-i.is) at c.put.ensures in
    writes-next _ _ _ _ _ _ c.loop-i.i c.loop-i.invariant c.index-list-i.result _ c.loop-i-test.true (search rules) e

pub returns : goal.returns
returns g c = writes-all _ _ _ _ _ _ c.loop-i.i c.loop-i.invariant c.loop-i-test.false
