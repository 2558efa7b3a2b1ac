-- `least_order`: the lesser of two, of the other two, and of those. Assumes nothing.
use Rattle.tile_least.specs.Least.{least_of}
use Rattle.tile_least.proofs.least.least_order.Goals as goal

pub returns : goal.returns
unfolding least_of
returns c = (
  rw (← c.lesser_order-upper.ensures.result_value, ← c.lesser_order-lower.ensures.result_value) c.lesser_order.ensures.result_value,
  c.lesser_order.ensures.upper_bound,
)
