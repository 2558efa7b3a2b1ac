-- `stack_no`: the count, then the layers. Assumes nothing.
use mathlib.Core.Path.{sym, ◌∙◌}
use Rattle.layer_checks.proofs.Judging.{count-thirds, stack-count, stack-layers}
use Rattle.layer_checks.proofs.stack_no.Goals as goal

pub returns-then-bad_count : goal.returns-then-bad_count
returns-then-bad_count c = stack-count _ _ _ _ (sym c.bad_count.ensures ∙ c.if-bad_count.true)

pub layers_no-requires : goal.layers_no-requires
layers_no-requires c = count-thirds _ (sym c.bad_count.ensures ∙ c.if-bad_count.false)

pub returns : goal.returns
returns c = stack-layers _ _ _ _ _ (sym c.bad_count.ensures ∙ c.if-bad_count.false) c.layers_no.ensures
