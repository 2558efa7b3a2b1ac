-- `eyedropper`: `get_at`'s answer. Assumes nothing.
use borrow.Author.Rules.{rules}
use mir.Facts.{to_z-of_z}
use Rattle.tool_clip.proofs.copying.eyedropper.Goals as goal

pub returns : goal.returns
returns c = rw (to_z-of_z c.ranges.x, to_z-of_z c.ranges.y) at c.get_at.ensures
