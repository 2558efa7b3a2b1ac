-- `can_undo_add`: `can_revert`, then 1 to 3 on the sheet with an entry less. Assumes nothing.
use native.Mathlib.Omega.{arith}
use borrow.Author.Tests.{lt-ltb, le-ltb}
use Rattle.edit.specs.Apply.{reverted, can_revert}
use Rattle.edit.specs.Locks.{bears}
use Rattle.journal_read.specs.Sound.{undoable}
use Rattle.journal_undo.proofs.undo.can_undo_add.Goals as goal

pub returns-then-k-eq0 : goal.returns-then-k-eq0
unfolding undoable can_revert bears
returns-then-k-eq0 c locks colour = rw (le-ltb 0 c.args.k (omega (arith, c.if-k-eq0.true)))

pub returns : goal.returns
unfolding undoable can_revert bears reverted
returns c locks colour = rw (lt-ltb 0 c.args.k (omega (arith, c.if-k-eq0.false)), ← c.check.ensures.value)
