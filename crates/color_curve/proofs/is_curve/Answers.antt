-- `is_curve`: the four rules, in their order. Assumes nothing.
use mathlib.Core.Path.{◌∙◌}
use borrow.Author.Rules.{rules}
use lib.Ieee.{round, of_bits}
use Rattle.color_doubles.specs.Arithmetic.{decimal}
use Rattle.color_curve.proofs.Fit.{unfit-count, unfit-first, unfit-last, fit-rising}
use Rattle.color_curve.proofs.is_curve.Goals as goal

pub returns-then-values-ne-VALUES : goal.returns-then-values-ne-VALUES
returns-then-values-ne-VALUES c = unfit-count _ c.if-values-ne-VALUES.true

pub returns-then-values : goal.returns-then-values
unfolding decimal round of_bits
returns-then-values c = unfit-first _ c.if-values-ne-VALUES.false c.if-values.true

pub returns-then-values-2 : goal.returns-then-values-2
unfolding decimal round of_bits
returns-then-values-2 c = unfit-last _ c.if-values-ne-VALUES.false c.if-values.false c.if-values-2.true

pub returns : goal.returns
unfolding decimal round of_bits
returns c = c.is_rising.ensures ∙ fit-rising _ c.if-values-ne-VALUES.false c.if-values.false c.if-values-2.false
