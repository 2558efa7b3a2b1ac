-- `pack`: the first i, packed, over the front. Assumes nothing.
use mathlib.Core.List.{map}
use mathlib.Core.Path.{◌≡◌}
use lib.ListN.{take}
use Rattle.base.specs.Lists.{over}
use Rattle.struct_change.specs.Struct.{packed_of}
use Rattle.struct_change.proofs.slices.pack.Given as goal

abbrev pub invariant-loop-i : goal.invariant-loop-i
invariant-loop-i l = l.flat ≡ over (take l.i (map packed_of l.list)) l.fn.flat
