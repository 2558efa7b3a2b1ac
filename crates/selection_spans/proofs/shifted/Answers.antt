-- `shifted`: the corners fit, so they read back as themselves. Assumes nothing.
use native.Mathlib.Omega.{arith}
use mir.Facts.{to_z-of_z}
use Rattle.selection_spans.specs.Spans.{moved_first, moved_last}
use Rattle.selection_spans.proofs.Moved.{Corners, corners}
use Rattle.selection_spans.proofs.shifted.Goals as goal
use Rattle.selection_spans.proofs.shifted.Goals.{Start}

fit : (c : Start) → Corners c.args.start c.args.count c.args.d
fit c = corners (omega arith) (omega arith) c.requires

pub overflow_add-a : goal.overflow_add-a
overflow_add-a c = let m = fit c in rw (m.start_is, to_z-of_z c.ranges.d) m.first

pub overflow_add-b : goal.overflow_add-b
overflow_add-b c = let m = fit c in rw (m.start_is, to_z-of_z c.ranges.d, to_z-of_z m.first, m.count-is) m.past

pub overflow_sub-b : goal.overflow_sub-b
overflow_sub-b c = let m = fit c in rw (m.start_is, to_z-of_z c.ranges.d, to_z-of_z m.first, m.count-is, to_z-of_z m.past) m.last

pub returns : goal.returns
unfolding moved_first moved_last
returns c = let m = fit c.before in rw (m.start_is, to_z-of_z c.ranges.d, to_z-of_z m.first, m.count-is, to_z-of_z m.past, to_z-of_z m.last) at c.between.ensures
