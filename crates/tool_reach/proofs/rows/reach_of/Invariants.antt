-- `reach_of`: the rows of the points passed lie between the two bounds. Assumes nothing.
use mathlib.Core.Path.{◌≡◌}
use Rattle.std.specs.Slice.Iter.{chunks_exact_rest, chunks_exact_size}
use Rattle.tool_reach.proofs.Reached.{Passed}
use Rattle.tool_reach.proofs.rows.reach_of.Given as goal

abbrev pub invariant-loop-point : goal.invariant-loop-point
invariant-loop-point l = (chunks_exact_size l.point-iterator ≡ 2) × Passed l.points l.r (chunks_exact_rest l.point-iterator)
