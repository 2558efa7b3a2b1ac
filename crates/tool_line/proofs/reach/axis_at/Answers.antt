-- `axis_at`: the closed form's quotient and rest. Assumes nothing.
use mathlib.Core.Path.{◌≡◌}
use native.Mathlib.Omega.{arith}
use borrow.Author.Rules.{rules}
use mir.Facts.{to_z-of_z}
use Rattle.base.proofs.Back.{by_values}
use Rattle.tool_line.specs.Line.{side, toward, offset}
use Rattle.tool_line.specs.Walk.{direction, half, axis_at}
use Rattle.tool_line.proofs.Offsets.{offset-is}
use Rattle.tool_line.proofs.Toward.{direction-fits}
use Rattle.tool_line.proofs.Reaching.{gone-few, sum-few, places-few, stands-fits}
use Rattle.tool_line.proofs.reach.axis_at.Goals as goal
use Rattle.tool_line.proofs.reach.axis_at.Goals.{After-half, After-side-n, After-toward}

side-is : (c : After-side-n) → c.side-n.result ≡ side c.before.args.a c.before.args.b
side-is c = by_values side c.before.ranges.a c.before.ranges.b c.side-n.ensures

half_is : (c : After-half) → let s = c.before.before.args in c.half.result ≡ half s.a s.b s.m
half_is c = let s = c.before.before in by_values (λ a b. half a b s.args.m) s.ranges.a s.ranges.b c.half.ensures

at-is : (c : After-toward) → let s = c.before.before.before.args in c.toward.result ≡ toward s.a s.b (offset s.a s.b s.m s.j)
at-is c =
    let s = c.before.before.before in
    let a = s.args in
    rw (to_z-of_z s.ranges.a, to_z-of_z s.ranges.b, side-is c.before.before, half_is c.before, ← offset-is a.a a.b a.m a.j) at
    c.toward.ensures

pub overflow_mul-sum : goal.overflow_mul-sum
overflow_mul-sum c = let s = c.before in rw (side-is c) (omega (arith, gone-few _ _ _ s.requires.0 _ s.requires.1))

pub overflow_mul-sum-2 : goal.overflow_mul-sum-2
overflow_mul-sum-2 c = let s = c.before in rw (side-is c) (omega (arith, gone-few _ _ _ s.requires.0 _ s.requires.1))

pub overflow_add-sum : goal.overflow_add-sum
overflow_add-sum c = let s = c.before.before in rw (side-is c.before, half_is c) (omega (arith, sum-few _ _ _ s.requires.0 _ s.requires.1))

pub toward-requires : goal.toward-requires
toward-requires c =
    let s = c.before.before in
    rw (to_z-of_z s.ranges.a, side-is c.before, half_is c) (s.requires.0.near-start, places-few _ _ _ s.requires.0 _ s.requires.1)

pub returns : goal.returns
unfolding axis_at
returns c =
    let s = c.before.before.before.before in
    let a = s.args.a in
    let b = s.args.b in
    let step = by_values direction s.ranges.a s.ranges.b c.direction.ensures in
    let fits = stands-fits a b _ s.requires.0 _ s.requires.1 in
    rw (at-is c.before, to_z-of_z fits, step, to_z-of_z (direction-fits a b), side-is c.before.before.before, half_is c.before.before)
