-- `is_bad_target`: the three tests. Assumes nothing.
use borrow.Author.Rules.{rules}
use lib.IntN.{negsuc}
use mir.Facts.{to_z-of_z}
use Rattle.base.proofs.Back.{eq-back}
use Rattle.edit_remap.proofs.remap.is_bad_target.Goals as goal

pub returns : goal.returns
returns c = cc (to_z-of_z c.ranges.z, eq-back {b = negsuc 0} c.ranges.z (search rules))
