-- `move_indices`: the first i indices are moved so far, then what stood there. Assumes nothing.
use mathlib.Core.List.{map}
use mathlib.Core.Path.{◌≡◌}
use lib.ListN.{take}
use Rattle.base.specs.Lists.{over}
use Rattle.join_model.specs.Places.{moved_in}
use Rattle.join_palette.proofs.places.move_indices.Given as goal

abbrev pub invariant-loop-i : goal.invariant-loop-i
invariant-loop-i l = l.out ≡ over (map (moved_in l.table) (take l.i l.indices)) l.initial.out
