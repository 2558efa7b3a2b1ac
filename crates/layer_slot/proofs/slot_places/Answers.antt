-- `slot_places`: the slots of i layers so far. Assumes nothing.
use Prim.Native.Nat.{◌+◌, ◌*◌, ◌≤◌}
use native.Mathlib.Omega.{arith}
use lib.ListN.{length}
use Rattle.layer_slot.proofs.Slotting.{part_length, part-known, part-inside, slotted-next}
use Rattle.layer_slot.proofs.slot_places.Goals as goal
use Rattle.layer_slot.proofs.slot_places.Goals.{In-loop-i}

-- the places are in the layer's indices
inside : (c : In-loop-i) → let a = c.args in (a.n * c.loop-i.i + a.at) + a.m ≤ length a.indices.now
inside c = omega (arith, part-inside c.args.n c.args.count c.loop-i.i c.args.at c.args.m c.loop-i-test.true c.requires.5)

pub slot_layer-requires : goal.slot_layer-requires
slot_layer-requires c =
    let start = c.args.n * c.loop-i.i + c.args.at in (
      part-known start c.args.m c.args.indices.now c.requires.3,
      omega (arith, part_length start c.args.m c.args.indices.now (inside (goal.at.slot_layer-requires c).In-loop-i)),
      omega arith,
      c.loop-i.invariant.long,
    )

pub loop-i-preserved : goal.loop-i-preserved
loop-i-preserved c = slotted-next _ _ _ _ _ _ _ (inside (goal.at.loop-i-preserved c).In-loop-i) c.loop-i.invariant c.slot_layer.ensures
