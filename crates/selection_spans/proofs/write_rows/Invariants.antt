-- `write_rows`: so far the front of the buffer is the first j rows. Assumes nothing.
use mathlib.Core.Path.{◌≡◌}
use Rattle.base.specs.Lists.{over}
use Rattle.selection_spans.specs.Positions.{flat, rows}
use Rattle.selection_spans.proofs.write_rows.Given as goal

abbrev pub invariant-loop-j : goal.invariant-loop-j
invariant-loop-j l = l.out ≡ over (flat (rows l.x l.w l.y l.j)) l.initial.out
