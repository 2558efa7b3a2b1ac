-- `step`: each axis by itself. Assumes nothing.
use Rattle.tool_line.proofs.Walks.{walk-fits, walk-next}
use Rattle.tool_line.proofs.along.step.Goals as goal

pub step_axis-requires : goal.step_axis-requires
step_axis-requires c = (walk-fits _ c.requires).x

pub step_axis-requires-2 : goal.step_axis-requires-2
step_axis-requires-2 c = (walk-fits _ c.requires).y

pub returns : goal.returns
returns c = walk-next c.args.w _ _ c.step_axis.ensures c.step_axis-2.ensures
