-- `diff::shade_of` meets its contract: the index plus one is its place. Assumes nothing.
use native.Mathlib.Omega.{arith}
use Rattle.sheet_diff.proofs.Slots.{slot-fits, slot-wide, slot_at, slot-below}
use Rattle.sheet_diff.proofs.diff.shade_of.Goals as goal

pub overflow_add-at : goal.overflow_add-at
overflow_add-at c = slot-fits c.ranges.z c.requires

pub overflow_cast-at : goal.overflow_cast-at
overflow_cast-at c = slot-wide c.ranges.z c.requires

pub offset_bounds-table-at : goal.offset_bounds-table-at
offset_bounds-table-at c = omega (arith, slot-below c.ranges.z c.requires)

pub bounds-table-at : goal.bounds-table-at
bounds-table-at c = slot-below c.ranges.z c.requires

pub returns : goal.returns
returns c = rw (slot_at c.ranges.z c.requires)
