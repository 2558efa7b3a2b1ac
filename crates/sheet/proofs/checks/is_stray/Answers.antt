-- `is_stray`: the two tests are the definition's. Assumes nothing.
use mir.Facts.{to_z-of_z}
use Rattle.sheet.specs.Sheet.{stray_z}
use Rattle.sheet.proofs.checks.is_stray.Goals as goal

pub returns : goal.returns
unfolding stray_z
returns c = rw (to_z-of_z c.ranges.z, to_z-of_z c.ranges.k) at c.either.ensures
