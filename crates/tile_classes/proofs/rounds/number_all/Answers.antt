-- `number_all`: the cells below c are numbered. Assumes nothing.
use mathlib.Core.Path.{◌≡◌}
use Prim.Native.Nat.{◌+◌, ◌<◌, ◌^◌}
use native.Mathlib.Omega.{arith}
use lib.ListN.{length, get_or}
use Rattle.tile_cells.proofs.Corners.{count_small, area}
use Rattle.tile_classes.specs.Places.{class_in}
use Rattle.tile_classes.proofs.Writing.{written_next}
use Rattle.tile_classes.proofs.rounds.number_all.Goals as goal
use Rattle.tile_classes.proofs.rounds.number_all.Goals.{In-loop-c}

-- the place is as it was, and there is room for the number

here : (c : In-loop-c)
    → get_or c.loop-c.s c.loop-c.c 0 ≡ get_or c.args.s.now c.loop-c.c 0
here c = c.loop-c.invariant.places _ c.loop-c-test.true

small : (c : In-loop-c) → class_in (get_or c.args.s.now c.loop-c.c 0) < 2 ^ 20
small c = let p = c.requires in omega (arith, p.told.classed.small _ c.loop-c-test.true, p.tiled.1, count_small p.tiled.0, area p.tiled.0)

long : (c : In-loop-c) → c.args.n + c.loop-c.c < length c.args.s.now
long c = omega (arith, c.requires.told.classed.room, c.loop-c-test.true)

pub number-v-requires : goal.number-v-requires
number-v-requires c =
    let p = c.requires in record {
      tiled = (p.tiled.0, rw p.tiled.1 at c.loop-c-test.true, p.tiled.2);
      v_bound = (rw (here (goal.at.number-v-requires c).In-loop-c)
          (small (goal.at.number-v-requires c).In-loop-c, p.told.least _ c.loop-c-test.true));
    }

pub loop-c-preserved : goal.loop-c-preserved
loop-c-preserved c =
    written_next _ _ c.loop-c.invariant (long (goal.at.loop-c-preserved c).In-loop-c) _
    (rw (here (goal.at.loop-c-preserved c).In-loop-c) at c.number-v.ensures)
