-- `nearest_other`: 1 to 3, 7, 9, then the search. Assumes nothing.
use Rattle.palette_model.proofs.RemoveAnswers.{near-refused, near-found}
use Rattle.palette_remove.proofs.nearest.nearest_other.Goals as goal

pub returns-then-no-ne0 : goal.returns-then-no-ne0
returns-then-no-ne0 c = near-refused _ _ _ c.other_no-no.ensures c.if-no-ne0.true

pub nearest_but-near-requires : goal.nearest_but-near-requires
nearest_but-near-requires c = let o = c.other_no-no.ensures.fine c.if-no-ne0.false in (o.formed.limits.lab-length, o.formed.limits.k-small, o.more, o.entry, o.formed.fit)

pub returns : goal.returns
returns c = near-found _ _ _ c.other_no-no.ensures c.if-no-ne0.false _ c.nearest_but-near.ensures
