-- `inside`: its two tests are the definition's. Assumes nothing.
use borrow.Author.Rules.{rules}
use borrow.Author.Tests.{le-leb, lt-leb}
use Rattle.selection.specs.Selection.{inside}
use Rattle.selection.proofs.Selection.inside.Goals as goal

pub returns-then-right-width : goal.returns-then-right-width
unfolding inside
returns-then-right-width c = rw (le-leb _ _ c.if-right-width.true)

pub returns-else-right-width : goal.returns-else-right-width
unfolding inside
returns-else-right-width c = rw (lt-leb _ _ c.if-right-width.false)
