-- `side`: the lesser is taken from the other, so the difference is not negative. Assumes nothing.
use mir.Facts.{to_z-of_z}
use Rattle.base.proofs.Back.{lt_z-back}
use Rattle.tool_line.specs.Line.{side}
use Rattle.tool_line.proofs.Toward.{Apart, apart, not_back, side-back}
use Rattle.tool_line.proofs.along.side.Goals as goal
use Rattle.tool_line.proofs.along.side.Goals.{Else-b-a, Then-b-a}

down : (c : Then-b-a) → Apart c.before.args.a c.before.args.b
down c = let s = c.before in apart _ _ s.requires.0 s.requires.1 (not_back s.args.a s.args.b (lt_z-back s.ranges.b s.ranges.a c.if-b-a.true))

up : (c : Else-b-a) → Apart c.before.args.b c.before.args.a
up c = let s = c.before in apart _ _ s.requires.1 s.requires.0 (lt_z-back s.ranges.b s.ranges.a c.if-b-a.false)

pub overflow_sub-result : goal.overflow_sub-result
overflow_sub-result c = rw (to_z-of_z c.ranges.a, to_z-of_z c.ranges.b) (down c).fits

pub overflow_cast-result : goal.overflow_cast-result
overflow_cast-result c = rw (to_z-of_z c.ranges.a, to_z-of_z c.ranges.b, to_z-of_z (down c).fits) (down c).cast

pub returns-then-b-a : goal.returns-then-b-a
returns-then-b-a c = rw (to_z-of_z c.ranges.a, to_z-of_z c.ranges.b, to_z-of_z (down c).fits) (side-back _ _)

pub overflow_sub-result-2 : goal.overflow_sub-result-2
overflow_sub-result-2 c = rw (to_z-of_z c.ranges.a, to_z-of_z c.ranges.b) (up c).fits

pub overflow_cast-result-2 : goal.overflow_cast-result-2
overflow_cast-result-2 c = rw (to_z-of_z c.ranges.a, to_z-of_z c.ranges.b, to_z-of_z (up c).fits) (up c).cast

pub returns : goal.returns
unfolding side
returns c = rw (to_z-of_z c.ranges.a, to_z-of_z c.ranges.b, to_z-of_z (up c).fits)
