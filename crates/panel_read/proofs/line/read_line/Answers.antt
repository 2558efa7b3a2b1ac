-- `read_line`: the frame, then its sheet. Assumes nothing.
use mathlib.Core.Path.{◌∙◌}
use Rattle.panel_read.proofs.Taking.{line-by}
use Rattle.panel_read.proofs.line.read_line.Goals as goal

pub returns : goal.returns
returns c =
    c.read_frame.ensures ∙ line-by _ _ _ _ _ _ c.decode-frame.ensures.bytes_after
