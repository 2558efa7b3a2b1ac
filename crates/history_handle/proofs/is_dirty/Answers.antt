-- `is_dirty`: none is saved, or another position. Assumes nothing.
use borrow.Author.Tests.{eq-eqb, ne_eqb}
use Rattle.history_ledger.specs.Handle.{saved_position, is_other}
use Rattle.history_handle.proofs.is_dirty.Goals as goal

pub returns-then-saved : goal.returns-then-saved
unfolding saved_position is_other
returns-then-saved c = rw (eq-eqb _ _ c.if-saved.true)

pub returns : goal.returns
unfolding saved_position is_other
returns c = rw (ne_eqb _ _ c.if-saved.false)
