-- `write_row`: so far the front of the buffer is the row's first i positions. Assumes nothing.
use mathlib.Core.Path.{◌≡◌}
use Rattle.base.specs.Lists.{over}
use Rattle.selection_spans.specs.Positions.{row, flat}
use Rattle.selection_spans.proofs.write_row.Given as goal

abbrev pub invariant-loop-i : goal.invariant-loop-i
invariant-loop-i l = l.out ≡ over (flat (row l.x l.i l.y)) l.initial.out
