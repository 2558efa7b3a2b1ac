-- `contains`: on both axes. Assumes nothing.
use borrow.Author.Rules.{rules}
use Rattle.selection.specs.Selection.{contains}
use Rattle.selection.proofs.Selection.contains.Goals as goal

pub returns-then-in_span : goal.returns-then-in_span
unfolding contains
returns-then-in_span c = rw (← c.in_span.ensures, c.if-in_span.true) c.in_span-then-in_span.ensures

pub returns-else-in_span : goal.returns-else-in_span
unfolding contains
returns-else-in_span c = rw (← c.in_span.ensures, c.if-in_span.false)
