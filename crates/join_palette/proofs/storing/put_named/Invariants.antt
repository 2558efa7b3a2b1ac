-- `put_named`: the first j pieces that the list names, then what stood there. Assumes nothing.
use mathlib.Core.Path.{◌≡◌}
use lib.ListN.{take}
use Rattle.base.specs.Lists.{over}
use Rattle.join_palette.specs.Pieces.{pieces}
use Rattle.join_palette.proofs.storing.put_named.Given as goal

abbrev pub invariant-loop-j : goal.invariant-loop-j
invariant-loop-j g l = l.out ≡ over (pieces g.row.N l.from (take l.j l.named)) l.initial.out
