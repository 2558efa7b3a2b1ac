-- `take_changes`: i changes are copied. Assumes nothing.
use Prim.Native.Nat.{ℕ, ◌+◌, ◌*◌, ◌<◌}
use lib.ListN.{get_or}
use mathlib.Core.Path.{◌≡◌}
use Rattle.edit.specs.Change.{unpacked}
use Rattle.panel_frames.specs.Reading.{change_at}
use Rattle.panel_frames.proofs.carry.take_changes.Given as goal

abbrev pub invariant-loop-i : goal.invariant-loop-i
invariant-loop-i l = (k : ℕ) → k < l.i → unpacked (get_or l.change-items k 0) ≡ change_at l.bytes (2 + 6 * k)
