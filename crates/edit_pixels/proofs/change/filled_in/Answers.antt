-- `filled_in`: the parts of the number that is made. Assumes nothing.
use mathlib.Core.Path.{◌∙◌}
use borrow.Author.Rules.{rules}
use Rattle.edit_pixels.proofs.Filling.{filled_is}
use Rattle.edit_pixels.proofs.change.filled_in.Goals as goal

pub returns : goal.returns
returns c = filled_is _ _ _ _ _ (search rules) c.place_of-p.ensures (c.from-old.ensures ∙ c.cast_unsigned.ensures)
