-- `fill_edit`: a lock's mark is there. Assumes nothing.
use Rattle.edit_locks.specs.Movable.{MarkIn}
use Rattle.edit_apply.proofs.redo.fill_edit.Goals as goal

pub is_locked-old-requires : goal.is_locked-old-requires
unfolding MarkIn
is_locked-old-requires c = (rw c.in-PaletteLock.is at c.requires.2)
