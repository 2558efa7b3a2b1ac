-- `entry_no`: the permitted colours first, then what a move asks, then the curve. Assumes nothing.
use mathlib.Core.Path.{sym, ◌∙◌}
use Rattle.history_model.proofs.Answers.{enters-given, enters-moves, enters-curve}
use borrow.Author.Rules.{rules}
use Rattle.history_model.proofs.entering.entry_no.Goals as goal

pub returns-then-no-ne0 : goal.returns-then-no-ne0
returns-then-no-ne0 c = λ e l. enters-given _ _ _ _ c.permitted_no-no.ensures c.if-no-ne0.true

pub returns-then-moved-ne0 : goal.returns-then-moved-ne0
returns-then-moved-ne0 c = λ e l. enters-moves _ _ _ (sym c.permitted_no-no.ensures ∙ c.if-no-ne0.false) _ c.move_no-moved.ensures c.if-moved-ne0.true

pub returns : goal.returns
returns c = λ e l. enters-curve _ _ _ (sym c.permitted_no-no.ensures ∙ c.if-no-ne0.false) _ c.move_no-moved.ensures c.if-moved-ne0.false _ c.curve_no.ensures
