-- `take_indices`: the first i are copied. Assumes nothing.
use lib.ListN.{take}
use mathlib.Core.List.{map}
use mathlib.Core.Path.{◌≡◌}
use Rattle.base.specs.Lists.{over}
use Rattle.panel_frames.specs.Reading.{index_of}
use Rattle.panel_frames.proofs.carry.take_indices.Given as goal

abbrev pub invariant-loop-i : goal.invariant-loop-i
invariant-loop-i l = l.indices ≡ over (map index_of (take l.i l.bytes)) l.initial.indices
