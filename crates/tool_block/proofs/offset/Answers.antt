-- `offset`: the sum fits. Assumes nothing.
use mir.Facts.{to_z-of_z}
use Rattle.base.specs.Ints.{from_zero}
use Rattle.base.proofs.Back.{by_value}
use Rattle.tool_paste_model.proofs.Landings.{offset-fits}
use borrow.Author.Rules.{rules}
use Rattle.tool_block.proofs.offset.Goals as goal

pub overflow_add-d : goal.overflow_add-d
overflow_add-d c = rw (to_z-of_z c.ranges.d) (offset-fits _ c.requires)

pub returns : goal.returns
returns c = by_value from_zero (offset-fits _ c.requires) (rw (to_z-of_z c.ranges.d) at c.from_zero.ensures)
