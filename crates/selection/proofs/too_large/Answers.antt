-- `too_large`: its two tests are the definition's. Assumes nothing.
use borrow.Author.Tests.{lt-ltb, le-ltb}
use Rattle.selection.specs.Calls.{too_large}
use Rattle.selection.proofs.too_large.Goals as goal

pub returns-then-width-gt-MAX_SIDE : goal.returns-then-width-gt-MAX_SIDE
unfolding too_large
returns-then-width-gt-MAX_SIDE c = rw (lt-ltb _ _ c.if-width-gt-MAX_SIDE.true)

pub returns-else-width-gt-MAX_SIDE : goal.returns-else-width-gt-MAX_SIDE
unfolding too_large
returns-else-width-gt-MAX_SIDE c = rw (le-ltb _ _ c.if-width-gt-MAX_SIDE.false)
