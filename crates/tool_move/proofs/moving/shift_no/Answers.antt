-- `shift_no`: by what `translated` answers. Assumes nothing.
use mir.Facts.{to_z-of_z}
use Rattle.tool_paste_model.proofs.MoveAnswers.{shift-part, shift-nothing, shift-refused}
use borrow.Author.Rules.{rules}
use Rattle.tool_move.proofs.moving.shift_no.Goals as goal

pub returns-in-Part : goal.returns-in-Part
returns-in-Part c = shift-part _ _ _ _ _ c.in-Part.is (rw (to_z-of_z c.ranges.dx, to_z-of_z c.ranges.dy) at c.translated.ensures)

pub returns-in-Nothing : goal.returns-in-Nothing
returns-in-Nothing c = shift-nothing _ _ _ _ _ c.in-Nothing.is (rw (to_z-of_z c.ranges.dx, to_z-of_z c.ranges.dy) at c.translated.ensures)

pub returns-in-Refused : goal.returns-in-Refused
returns-in-Refused c = shift-refused _ _ _ _ _ c.in-Refused.is (rw (to_z-of_z c.ranges.dx, to_z-of_z c.ranges.dy) at c.translated.ensures)
