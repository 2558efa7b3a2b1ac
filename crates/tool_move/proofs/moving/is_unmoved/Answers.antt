-- `is_unmoved`: its two tests. Assumes nothing.
use Rattle.tool_paste_model.proofs.MoveAnswers.{unmoved-both, unmoved-not}
use Rattle.tool_move.proofs.moving.is_unmoved.Goals as goal

pub returns-then-dx-eq0 : goal.returns-then-dx-eq0
returns-then-dx-eq0 c = unmoved-both c.ranges.dx c.ranges.dy c.if-dx-eq0.true

pub returns-else-dx-eq0 : goal.returns-else-dx-eq0
returns-else-dx-eq0 c = unmoved-not c.ranges.dx c.ranges.dy c.if-dx-eq0.false
