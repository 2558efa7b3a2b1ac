-- `put_mark`: one store. Assumes nothing.
use Rattle.edit.proofs.Locks.{mark-stored}
use Rattle.edit_locks.proofs.moving.put_mark.Goals as goal

pub returns : goal.returns
returns c = mark-stored _ _ _ c.requires
