-- `place_of`: the index plus one is its place in the table. Assumes nothing.
use mir.Syntax.{w16}
use Rattle.base.proofs.Back.{back}
use Prim.Native.Nat.{ℕ}
use lib.ListN.{get_or}
use lib.IntN.{pos}
use mathlib.Core.Path.{ap, ◌∙◌}
use Rattle.sheet_diff.proofs.Slots.{slot-fits, slot-wide, slot_at, slot-below}
use Rattle.join_palette.proofs.places.place_of.Goals as goal

pub overflow_add-at : goal.overflow_add-at
overflow_add-at c = slot-fits c.ranges.z c.requires

pub overflow_cast-at : goal.overflow_cast-at
overflow_cast-at c = slot-wide c.ranges.z c.requires

pub bounds-table-at : goal.bounds-table-at
bounds-table-at c = slot-below c.ranges.z c.requires

pub returns : goal.returns
returns c =
    back w16 _ c.result-1.given
    ∙ ap (λ (n : ℕ). get_or c.args.table.now n (pos 0)) (slot_at c.ranges.z c.requires)
