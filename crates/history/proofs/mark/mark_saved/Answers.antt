-- `mark_saved`: 1 and 4, then the standing position is saved. Assumes nothing.
use mathlib.Core.Path.{sym, ◌∙◌}
use Rattle.base.proofs.First.{refused-first, result-first}
use Rattle.history_ledger.specs.Journal.{mark_of}
use Rattle.history_ledger.specs.Calls.{refused}
use borrow.Author.Rules.{rules}
use Rattle.history.proofs.mark.mark_saved.Goals as goal

pub returns-then-no-ne0 : goal.returns-then-no-ne0
unfolding mark_of
returns-then-no-ne0 c = refused-first _ (refused _) _ _ c.handle_no-no.ensures c.if-no-ne0.true

pub returns : goal.returns
unfolding mark_of
returns c = rw c.marked.ensures (result-first _ (refused _) _ (sym c.handle_no-no.ensures ∙ c.if-no-ne0.false))
