-- `is_entry`: the entry as a signed number. Assumes nothing.
use borrow.Author.Rules.{rules}
use Rattle.base.proofs.Back.{eq-back}
use Rattle.edit_left.proofs.is_entry.Goals as goal

pub returns : goal.returns
returns c = eq-back c.ranges.z (search rules)
