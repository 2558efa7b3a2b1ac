-- `land_all`: place by place; classes and marks stay. Assumes nothing.
use native.Mathlib.Omega.{arith}
use mathlib.Core.Path.{refl}
use Prim.Native.Nat.{◌-◌, ◌<◌}
use lib.ListN.{length}
use Rattle.tile_marks.proofs.Landing.{Landing, landing-start, class-within, mark-most, landing-room, landing-step, landing-end}
use borrow.Author.Rules.{rules}
use Rattle.tile_marks.proofs.marks.land_all.Goals as goal
use Rattle.tile_marks.proofs.marks.land_all.Goals.{In-loop-p}

inside : (c : In-loop-p) → c.loop-p.p < length c.args.s.now
inside c = omega (arith, c.loop-p.invariant.long, c.loop-p-test.true)

pub loop-p-init : goal.loop-p-init
loop-p-init c = landing-start _ _ _ _

pub bounds-s-class : goal.bounds-s-class
bounds-s-class c = let p = c.requires in omega (arith, c.loop-p.invariant.long, class-within _ _ _ _ p.1.few p.2 _ _ c.loop-p.invariant (inside (goal.at.bounds-s-class c).In-loop-p) _ refl)

pub land_by-v-requires : goal.land_by-v-requires
land_by-v-requires c = let p = c.requires in (p.0, mark-most _ _ _ _ p.1.few p.2 _ _ c.loop-p.invariant (inside (goal.at.land_by-v-requires c).In-loop-p) _ refl, λ j k. omega (arith, p.1.on j k, p.1.small))

pub overflow_mul-s : goal.overflow_mul-s
overflow_mul-s c = record { fits = omega (arith, c.land_by-v.ensures.1) }

pub overflow_add-s : goal.overflow_add-s
overflow_add-s c = let p = c.requires in record { fits = omega (arith, landing-room _ _ _ _ p.1.few p.2 _ _ c.loop-p.invariant (inside (goal.at.overflow_add-s c).In-loop-p) _ refl _ c.land_by-v.ensures.1) }

pub loop-p-preserved : goal.loop-p-preserved
loop-p-preserved c = let p = c.requires in landing-step _ _ _ _ p.1.few p.2 _ _ c.loop-p.invariant (inside (goal.at.loop-p-preserved c).In-loop-p) _ refl _ c.land_by-v.ensures.0

pub returns : goal.returns
returns c = landing-end _ _ _ _ _ _ c.loop-p.invariant (omega (arith, c.loop-p.invariant.long))
