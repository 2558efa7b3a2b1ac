-- `unpack`: the first i, as structs, over the front. Assumes nothing.
use mathlib.Core.List.{map}
use mathlib.Core.Path.{◌≡◌}
use lib.ListN.{take}
use Rattle.base.specs.Lists.{over}
use Rattle.struct_change.specs.Struct.{packed_of}
use Rattle.struct_change.proofs.slices.unpack.Given as goal

abbrev pub invariant-loop-i : goal.invariant-loop-i
invariant-loop-i l = map packed_of l.out ≡ over (take l.i l.flat) (map packed_of l.fn.out)
