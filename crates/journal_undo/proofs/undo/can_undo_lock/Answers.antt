-- `can_undo_lock`: the two tests are the definition's. Assumes nothing.
use native.Mathlib.Omega.{arith}
use borrow.Author.Tests.{lt-ltb, le-ltb}
use mathlib.Core.Path.{refl}
use Rattle.journal_read.proofs.Rooms.{lock-room}
use Rattle.journal_undo.specs.UndoTests.{lock_back}
use Rattle.journal_undo.proofs.UndoKinds.{lock-marked, lock-bears}
use Rattle.journal_undo.proofs.undo.can_undo_lock.Goals as goal

pub entry_at-index-requires : goal.entry_at-index-requires
entry_at-index-requires c = omega (arith, lock-room c.requires.0 refl)

pub bears-requires : goal.bears-requires
bears-requires c = lock-marked _ _ c.edit_at.ensures _ (omega (arith, c.entry_at-index.ensures.0, c.if-index-k.true, c.requires.1))

pub returns-then-index-k : goal.returns-then-index-k
unfolding lock_back
returns-then-index-k c = rw (← c.entry_at-index.ensures.0, lt-ltb _ _ c.if-index-k.true, c.entry_at-index.ensures.0) (lock-bears _ _ c.edit_at.ensures _ c.bears.ensures)

pub returns : goal.returns
unfolding lock_back
returns c = rw (← c.entry_at-index.ensures.0, le-ltb _ _ c.if-index-k.false)
