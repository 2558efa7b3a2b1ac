-- `is_unread`: the frame that the line is read as. Assumes nothing.
use Rattle.panel_frames.specs.Reading.{Told}
use Rattle.need_model.specs.Asked.{no_call, unread}
use mathlib.Core.Path.{ap, ◌∙◌}
use Rattle.need_lines.proofs.is_unread.Goals as goal

pub returns : goal.returns
unfolding unread
returns c = c.no_call.ensures ∙ ap (λ (t : Told). no_call t.frame) c.decode.ensures.bytes_after
