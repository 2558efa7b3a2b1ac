-- `copy_out`: the first i are copied. Assumes nothing.
use lib.ListN.{take}
use mathlib.Core.Path.{◌≡◌}
use Rattle.base.specs.Lists.{over}
use Rattle.change_list.proofs.copy.copy_out.Given as goal

abbrev pub invariant-loop-i : goal.invariant-loop-i
invariant-loop-i l = l.out ≡ over (take l.i l.scratch) l.initial.out
