-- `ask`: 1 and 4, then the answer. Assumes nothing.
use mathlib.Core.Path.{sym, ◌∙◌}
use Rattle.base.proofs.First.{refused-first, result-first}
use Rattle.base.specs.Answer.Told.{alone}
use Rattle.history_queries.specs.Looks.{asked}
use Rattle.history_queries.proofs.questions.ask.Goals as goal

pub returns-then-no-ne0 : goal.returns-then-no-ne0
unfolding asked
returns-then-no-ne0 c = refused-first _ alone _ _ c.handle_no-no.ensures c.if-no-ne0.true

pub returns : goal.returns
unfolding asked
returns c = result-first _ alone _ (sym c.handle_no-no.ensures ∙ c.if-no-ne0.false)
