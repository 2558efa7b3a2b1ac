-- `is_stray`: by the sign. Assumes nothing.
use mir.Facts.{to_z-of_z}
use Rattle.base.proofs.Back.{as-usize}
use Rattle.edit_pixels.proofs.Targets.{stray-negative, stray-natural}
use Rattle.edit_pixels.proofs.checks.is_stray.Goals as goal

pub overflow_cast-result : goal.overflow_cast-result
overflow_cast-result c = as-usize tt c.ranges.z c.if-z-lt0.false

pub returns-then-z-lt0 : goal.returns-then-z-lt0
returns-then-z-lt0 c = rw (to_z-of_z c.ranges.z) (stray-negative _ _ (rw (to_z-of_z c.ranges.z) at c.if-z-lt0.true))

pub returns-else-z-lt0 : goal.returns-else-z-lt0
returns-else-z-lt0 c = rw (to_z-of_z c.ranges.z) (stray-natural _ _ (rw (to_z-of_z c.ranges.z) at c.if-z-lt0.false))
