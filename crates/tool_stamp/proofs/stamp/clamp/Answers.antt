-- `clamp`: the three cases. Assumes nothing.
use native.Mathlib.Omega.{arith}
use Rattle.tool_line.specs.Brush.{clamped}
use Rattle.tool_stamp.proofs.stamp.clamp.Goals as goal

pub returns-then-size-lt1 : goal.returns-then-size-lt1
unfolding clamped
returns-then-size-lt1 c = omega arith

pub returns-then-size-gt8 : goal.returns-then-size-gt8
unfolding clamped
returns-then-size-gt8 c = omega arith

pub returns : goal.returns
unfolding clamped
returns c = omega arith
