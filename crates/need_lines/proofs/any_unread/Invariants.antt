-- `any_unread`: no line before this place is an opening or malformed. Assumes nothing.
use Prim.Native.Nat.{◌-◌}
use lib.ListN.{length}
use Rattle.need_model.specs.Asked.{unread}
use Rattle.need_lines.proofs.Cut.{Searching}
use Rattle.need_lines.proofs.any_unread.Given as goal

abbrev pub invariant-loop-at : goal.invariant-loop-at
invariant-loop-at l = Searching unread l.text l.at

abbrev pub decreases-loop-at : goal.decreases-loop-at
decreases-loop-at l = length l.text - l.at
