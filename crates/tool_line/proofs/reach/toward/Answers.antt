-- `toward`: the test is the definition's, and the numbers fit. Assumes nothing.
use mathlib.Core.Path.{◌≡◌}
use native.Mathlib.Omega.{arith}
use borrow.Author.Rules.{rules}
use lib.IntN.{pos, ◌+ℤ◌, ◌-ℤ◌}
use mir.Syntax.{w32}
use mir.Val.{SFits, to_z}
use mir.Facts.{to_z-of_z}
use Rattle.base.proofs.Back.{lt_z-back}
use Rattle.tool_line.specs.Line.{toward}
use Rattle.tool_line.proofs.Toward.{nat-back, toward-fits}
use Rattle.tool_line.proofs.reach.toward.Goals as goal
use Rattle.tool_line.proofs.reach.toward.Goals.{Start}

places : (c : Start) → to_z w32 c.args.k ≡ pos c.args.k
places c = let k = c.requires.1 in nat-back c.args.k (omega arith)

fit : (c : Start) → SFits w32 (c.args.a +ℤ pos c.args.k) × SFits w32 (c.args.a -ℤ pos c.args.k)
fit c = toward-fits c.args.a c.args.k c.requires.0 c.requires.1

pub overflow_sub-result : goal.overflow_sub-result
overflow_sub-result c = rw (to_z-of_z c.ranges.a, places c.before) (fit c.before).1

pub returns-then-b-a : goal.returns-then-b-a
unfolding toward
returns-then-b-a c = let s = c.before in rw (to_z-of_z s.ranges.a, places s, to_z-of_z (fit s).1, lt_z-back s.ranges.b s.ranges.a c.if-b-a.true)

pub overflow_add-result : goal.overflow_add-result
overflow_add-result c = rw (to_z-of_z c.ranges.a, places c.before) (fit c.before).0

pub returns : goal.returns
unfolding toward
returns c = let s = c.before in rw (to_z-of_z s.ranges.a, places s, to_z-of_z (fit s).0, lt_z-back s.ranges.b s.ranges.a c.if-b-a.false)
