-- `paint`: the bits are the index. Assumes nothing.
use Rattle.base.proofs.Back.{by_value}
use Rattle.change_list.proofs.Copying.{laid-set}
use mir.Syntax.{w16}
use mir.Val.{of_z}
use Rattle.change_list.proofs.between.paint.Goals as goal

pub returns-clause-by_index : goal.returns-clause-by_index
returns-clause-by_index c n = rw (by_value (of_z w16) c.ranges.index c.bits_of.ensures) (laid-set n _ _ _ c.ranges.index)
