-- `copy`: the first i so far. Assumes nothing.
use lib.ListN.{take}
use mathlib.Core.Path.{◌≡◌}
use Rattle.base.specs.Lists.{over}
use Rattle.sheet_lent.proofs.copying.copy.Given as goal

abbrev pub invariant-loop-i : goal.invariant-loop-i
invariant-loop-i g l = l.to ≡ over (take l.i l.from) l.initial.to
