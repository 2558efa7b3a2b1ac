-- `after_push`: either way to its saved position is the definition's. Assumes nothing.
use borrow.Author.Rules.{rules}
use borrow.Author.Tests.{le-leb, lt-leb}
use Rattle.history_handle.proofs.after_push.Goals as goal

pub returns-then-standing-handle : goal.returns-then-standing-handle
returns-then-standing-handle c = rw (lt-leb _ _ c.if-standing-handle.true)

pub returns-else-standing-handle : goal.returns-else-standing-handle
returns-else-standing-handle c = rw (le-leb _ _ c.if-standing-handle.false)
