-- `find::find_back` meets its contract: the last four bytes say where the record starts, and there it is read. Assumes nothing.
use mathlib.Core.Path.{◌∙◌}
use native.Mathlib.Omega.{arith}
use Rattle.journal_record.proofs.Finding.{back_none, back-short, back_is}
use Rattle.journal_find.proofs.find.find_back.Goals as goal

pub returns-then-offset-lt-LEAST : goal.returns-then-offset-lt-LEAST
returns-then-offset-lt-LEAST c w = back_none _ w _ _ (omega arith) c.if-offset-lt-LEAST.true

pub returns-then-offset-n : goal.returns-then-offset-n
returns-then-offset-n c w = back-short _ w _ _ c.requires c.if-offset-lt-LEAST.false _ c.get_u32-n.ensures c.if-offset-n.true

pub returns : goal.returns
returns c w =
    let found = rw (c.find_in.ensures w) at c.whole_only.ensures in
    let last = c.get_u32-n.ensures in
    found ∙ back_is _ w _ _ c.requires c.if-offset-lt-LEAST.false _ last c.if-offset-n.false
