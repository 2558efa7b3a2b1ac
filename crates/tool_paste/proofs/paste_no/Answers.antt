-- `paste_no`: 1, 2, 3, then the clip's. Assumes nothing.
use mir.Facts.{to_z-of_z}
use Rattle.tool_paste_model.proofs.Clips.{paste-sheet, paste-clip}
use borrow.Author.Rules.{rules}
use Rattle.tool_paste.proofs.paste_no.Goals as goal

pub returns-then-no-ne0 : goal.returns-then-no-ne0
returns-then-no-ne0 c = paste-sheet _ _ _ _ _ _ _ c.check-no.ensures c.if-no-ne0.true

pub returns : goal.returns
returns c = paste-clip _ _ _ _ _ _ _ (c.check-no.ensures.fine c.if-no-ne0.false) (rw (to_z-of_z c.ranges.x, to_z-of_z c.ranges.y) at c.clip_no.ensures)
