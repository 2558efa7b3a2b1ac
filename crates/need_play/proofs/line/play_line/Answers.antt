-- `play_line`: the frame that the line is read as. Assumes nothing.
use Rattle.need_play.proofs.Frames.{line-read}
use mathlib.Core.Path.{◌∙◌}
use Rattle.need_play.proofs.line.play_line.Goals as goal

pub returns : goal.returns
returns c = c.play_frame.ensures ∙ line-read _ _ _ _ _ _ c.decode-frame.ensures.bytes_after
