-- `pend_all`: one number an element. Assumes nothing.
use lib.ListN.{length, get_or}
use Prim.Native.Nat.{◌-◌, ◌≤◌, ◌<◌}
use native.Mathlib.Omega.{arith}
use mathlib.Core.Path.{◌≡◌}
use Rattle.tile_marks.proofs.Runs.{Running, running-start, running-step}
use Rattle.tile_marks.specs.Marks.{place_at}
use Rattle.tile_copies.specs.Pending.{pending_by, pending}
use borrow.Author.Rules.{rules}
use Rattle.tile_copies.proofs.waiting.pend_all.Goals as goal
use Rattle.tile_copies.proofs.waiting.pend_all.Goals.{After-place_of-q}

at : (c : After-place_of-q) → c.place_of-q.result < length c.args.s.now
at c = rw c.place_of-q.ensures (c.requires.on c.loop-change.change-index c.loop-change-test.true)

pub loop-change-init : goal.loop-change-init
loop-change-init c = running-start _ _ _

pub place_of-q-requires : goal.place_of-q-requires
place_of-q-requires c = let p = c.requires in omega (arith, p.on c.loop-change.change-index c.loop-change-test.true, p.small)

pub offset_bounds-s-q : goal.offset_bounds-s-q
offset_bounds-s-q c = record { fits = omega (arith, at (goal.at.offset_bounds-s-q c).After-place_of-q, c.requires.small) }

pub bounds-s-q : goal.bounds-s-q
bounds-s-q c = omega (arith, at (goal.at.bounds-s-q c).After-place_of-q, c.loop-change.invariant.long)

pub offset_bounds-s-q-in-loop-change : goal.offset_bounds-s-q-in-loop-change
offset_bounds-s-q-in-loop-change c = record { fits = omega (arith, at (goal.at.offset_bounds-s-q-in-loop-change c).After-place_of-q, c.requires.small) }

pub bounds-s-q-in-loop-change : goal.bounds-s-q-in-loop-change
bounds-s-q-in-loop-change c = omega (arith, at (goal.at.bounds-s-q-in-loop-change c).After-place_of-q, c.loop-change.invariant.long)

pub loop-change-preserved : goal.loop-change-preserved
loop-change-preserved c = running-step _ _ _ _ _ c.loop-change.invariant _ _ c.place_of-q.ensures (at (goal.at.loop-change-preserved c).After-place_of-q) c.pend_by.ensures

pub returns : goal.returns
unfolding pending
returns c = λ p h. let e : c.loop-change.change-index ≡ length c.args.list.now = omega arith in rw e at (c.loop-change.invariant.at p h)
