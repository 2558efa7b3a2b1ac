-- `mark_all`: one number an element. Assumes nothing.
use lib.ListN.{length, get_or}
use mathlib.Core.Path.{◌≡◌, ap, ◌∙◌}
use native.Mathlib.Omega.{arith}
use Prim.Native.Nat.{ℕ, ◌-◌, ◌%◌, ◌≤◌, ◌<◌, ◌^◌}
use Rattle.tile_marks.specs.Marks.{place_at, marked_by, marked}
use Rattle.tile_marks.proofs.Runs.{Running, running-start, running-step, class-read, mark-read}
use borrow.Author.Rules.{rules}
use Rattle.tile_marks.proofs.marks.mark_all.Goals as goal
use Rattle.tile_marks.proofs.marks.mark_all.Goals.{After-place_of}

at : (c : After-place_of) → c.place_of.result < length c.args.s.now
at c = rw c.place_of.ensures (c.requires.0.on c.loop-i.i c.loop-i-test.true)

class : (c : After-place_of) → get_or c.loop-i.s c.place_of.result 0 % 2 ^ 20 ≡ get_or c.args.s.now c.place_of.result 0
class c = class-read _ _ _ _ _ c.requires.0.small c.requires.1.within c.loop-i.invariant _ (at c)

within : (c : After-place_of) → get_or c.loop-i.s c.place_of.result 0 % 2 ^ 20 < length c.args.s.now
within c = rw (class c) (c.requires.1.within _ (at c))

pub loop-i-init : goal.loop-i-init
loop-i-init c = running-start _ _ _

pub place_of-requires : goal.place_of-requires
place_of-requires c = let p = c.requires.0 in omega (arith, p.on c.loop-i.i c.loop-i-test.true, p.small)

pub offset_bounds-s-place_of : goal.offset_bounds-s-place_of
offset_bounds-s-place_of c = record { fits = omega (arith, at c, c.requires.0.small) }

pub bounds-s-place_of : goal.bounds-s-place_of
bounds-s-place_of c = omega (arith, at (goal.at.bounds-s-place_of c).After-place_of, c.loop-i.invariant.long)

pub bounds-s-class : goal.bounds-s-class
bounds-s-class c = omega (arith, within (goal.at.bounds-s-class c).After-place_of, c.loop-i.invariant.long)

pub mark_by-v-requires : goal.mark_by-v-requires
mark_by-v-requires c =
    let p = c.requires.0 in
    let h = mark-read _ _ _ _ _ p.small c.requires.1.within c.loop-i.invariant _ (within (goal.at.mark_by-v-requires c).After-place_of) in
    record { i_in_bounds = (c.loop-i-test.true, p.few, omega (arith, h)); by_index = λ j k. omega (arith, p.on j k, p.small) }

pub bounds-s-class-in-loop-i : goal.bounds-s-class-in-loop-i
bounds-s-class-in-loop-i c = omega (arith, within (goal.at.bounds-s-class-in-loop-i c).After-place_of, c.loop-i.invariant.long)

pub loop-i-preserved : goal.loop-i-preserved
loop-i-preserved c = running-step _ _ _ _ _ c.loop-i.invariant _ _ (class (goal.at.loop-i-preserved c).After-place_of ∙ ap (λ (q : ℕ). get_or c.args.s.now q 0) c.place_of.ensures) (within (goal.at.loop-i-preserved c).After-place_of) c.mark_by-v.ensures

pub returns : goal.returns
unfolding marked
returns c = λ p h. let e : c.loop-i.i ≡ length c.args.list.now = omega arith in rw e at (c.loop-i.invariant.at p h)
