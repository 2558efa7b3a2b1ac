-- `placed_at`: the parts of the number are those that stand there. Assumes nothing.
use Rattle.journal_read.proofs.Placed.{placed-is}
use mathlib.Core.Path.{◌∙◌}
use native.Mathlib.Omega.{arith}
use Rattle.journal_read.proofs.change.placed_at.Goals as goal

pub returns : goal.returns
returns c w =
    let p = c.from-p.ensures in
    let old = c.from-old.ensures in
    let new = c.from-new.ensures in
    placed-is c.args.journal.now _ _ _ _ (p ∙ c.get_u24.ensures.0) (old ∙ c.get_u16.ensures.0) (new ∙ c.get_u16-2.ensures.0)
    (omega (arith, p, c.get_u24.ensures.1)) (omega (arith, old, c.get_u16.ensures.1)) (omega (arith, new, c.get_u16-2.ensures.1)) w
