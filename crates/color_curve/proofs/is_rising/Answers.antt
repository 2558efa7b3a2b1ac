-- `is_rising`: each call of the closure answers whether the first is less. Assumes nothing.
use borrow.Author.Rules.{rules}
use lib.Ieee.{lt}
use Rattle.std.proofs.lemmas.List.Sorted.{answers_always}
use Rattle.color_curve.proofs.Rising.{rising_answer}
use Rattle.color_curve.proofs.is_rising.Goals as goal

pub returns : goal.returns
returns c = rising_answer _ _ (c.is_sorted_by.ensures.cases lt (answers_always _ _ _ (λ f a r g h. search rules)))
