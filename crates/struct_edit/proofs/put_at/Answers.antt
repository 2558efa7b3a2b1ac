-- `put_at`: the part is lent from the offset on. Assumes nothing.
use Rattle.struct_edit.proofs.Putting.{spliced-within}
use Rattle.struct_edit.proofs.put_at.Goals as goal

pub returns : goal.returns
returns c = spliced-within _ _ _ _ _ c.put_change.ensures
