-- `can_undo_set`: the two tests are the definition's. Assumes nothing.
use borrow.Author.Tests.{lt-ltb, le-ltb}
use Rattle.journal_undo.specs.UndoTests.{set_back}
use Rattle.journal_undo.proofs.undo.can_undo_set.Goals as goal

pub returns-then-k-index : goal.returns-then-k-index
unfolding set_back
returns-then-k-index c = rw (← c.entry_at-index.ensures.0, le-ltb _ _ c.if-k-index.true)

pub returns : goal.returns
unfolding set_back
returns c = rw (← c.entry_at-index.ensures.0, lt-ltb _ _ c.if-k-index.false, ← c.unfit_lab_in.ensures)
