-- `corners_no`: each test is the check in its place. Assumes nothing.
use mathlib.Core.Path.{◌≡◌, sym}
use Rattle.base.specs.Checks.{first_of}
use Rattle.base.proofs.Back.{by_values}
use Rattle.tool_line.specs.Line.{point, far_point}
use Rattle.tool_stamp.specs.Given.{corner_checks}
use borrow.Author.Rules.{rules}
use Rattle.tool_draw.proofs.calls.corners_no.Goals as goal
use Rattle.tool_draw.proofs.calls.corners_no.Goals.{After-far_point, After-far_point-2}

far-first : (c : After-far_point) → far_point (point c.args.ax c.args.ay) ≡ c.far_point.result
far-first c = sym (by_values (λ x y. far_point (point x y)) c.ranges.ax c.ranges.ay c.far_point.ensures)

far-second : (c : After-far_point-2) → far_point (point c.args.bx c.args.by) ≡ c.far_point-2.result
far-second c = sym (by_values (λ x y. far_point (point x y)) c.ranges.bx c.ranges.by c.far_point-2.ensures)

pub returns-then-far_point : goal.returns-then-far_point
unfolding corner_checks first_of
returns-then-far_point c = rw (far-first (goal.at.returns-then-far_point c).After-far_point, c.if-far_point.true)

pub returns-then-far_point-2 : goal.returns-then-far_point-2
unfolding corner_checks first_of
returns-then-far_point-2 c = rw (far-first (goal.at.returns-then-far_point-2 c).After-far_point, c.if-far_point.false, far-second (goal.at.returns-then-far_point-2 c).After-far_point-2, c.if-far_point-2.true)

pub returns : goal.returns
unfolding corner_checks first_of
returns c = rw (far-first (goal.at.returns c).After-far_point, c.if-far_point.false, far-second (goal.at.returns c).After-far_point-2, c.if-far_point-2.false)
