-- `steps_within`: the first step that is not before it, and the first that is past it, each way. Assumes nothing.
use borrow.Author.Rules.{rules}
use mir.Facts.{to_z-of_z}
use Rattle.base.proofs.Back.{lt_z-back}
use Rattle.tool_line.proofs.Reaching.{First, within-up, within-down, way-fits, way-back-fits}
use Rattle.tool_line.proofs.reach.steps_within.Goals as goal

pub overflow_sub-a : goal.overflow_sub-a
overflow_sub-a c = let s = c.before in rw (to_z-of_z s.ranges.a, to_z-of_z s.ranges.hi) (way-back-fits _ _ s.requires.0.near-start s.requires.2)

pub overflow_sub-a-then-b-a : goal.overflow_sub-a-then-b-a
overflow_sub-a-then-b-a c = let s = c.before.before.before in rw (to_z-of_z s.ranges.a, to_z-of_z s.ranges.lo) (way-back-fits _ _ s.requires.0.near-start s.requires.1)

pub returns-then-b-a : goal.returns-then-b-a
unfolding First
returns-then-b-a c =
    let s = c.before.before.before.before.before in
    let f = s.ranges in
    let near = s.requires.0.near-start in
    let enter = rw (to_z-of_z f.a, to_z-of_z f.hi, to_z-of_z (way-back-fits _ _ near s.requires.2)) at c.up_to.ensures in
    let leave = rw (to_z-of_z f.a, to_z-of_z f.lo, to_z-of_z (way-back-fits _ _ near s.requires.1)) at c.up_to-then-b-a.ensures in
    let first = rw (to_z-of_z f.a, to_z-of_z f.b, enter) at c.first_step.ensures in
    let end = rw (to_z-of_z f.a, to_z-of_z f.b, leave) at c.first_step-then-b-a.ensures in
    within-down _ _ _ _ _ _ _ (lt_z-back f.b f.a c.if-b-a.true) first end

pub overflow_sub-lo : goal.overflow_sub-lo
overflow_sub-lo c = let s = c.before in rw (to_z-of_z s.ranges.a, to_z-of_z s.ranges.lo) (way-fits _ _ s.requires.0.near-start s.requires.1)

pub overflow_sub-hi : goal.overflow_sub-hi
overflow_sub-hi c = let s = c.before.before.before in rw (to_z-of_z s.ranges.a, to_z-of_z s.ranges.hi) (way-fits _ _ s.requires.0.near-start s.requires.2)

pub returns : goal.returns
unfolding First
returns c =
    let s = c.before.before.before.before.before in
    let f = s.ranges in
    let near = s.requires.0.near-start in
    let enter = rw (to_z-of_z f.lo, to_z-of_z f.a, to_z-of_z (way-fits _ _ near s.requires.1)) at c.from_zero.ensures in
    let leave = rw (to_z-of_z f.hi, to_z-of_z f.a, to_z-of_z (way-fits _ _ near s.requires.2)) at c.from_zero-2.ensures in
    let first = rw (to_z-of_z f.a, to_z-of_z f.b, enter) at c.first_step-2.ensures in
    let end = rw (to_z-of_z f.a, to_z-of_z f.b, leave) at c.first_step-3.ensures in
    within-up _ _ _ _ _ _ _ (lt_z-back f.b f.a c.if-b-a.false) first end
