-- `begin_axis`: no step is done, and the rest is what an axis begins with. Assumes nothing.
use borrow.Author.Rules.{rules}
use mir.Facts.{to_z-of_z}
use Rattle.base.proofs.Back.{by_values}
use Rattle.tool_line.specs.Line.{side}
use Rattle.tool_line.specs.Walk.{direction, half}
use Rattle.tool_line.proofs.Walks.{axis-first}
use Rattle.tool_line.proofs.Toward.{direction-fits}
use Rattle.tool_line.proofs.along.begin_axis.Goals as goal

pub returns : goal.returns
returns c =
    let s = c.before.before.before in
    let a = s.args.a in
    let b = s.args.b in
    let m = s.args.m in
    rw (to_z-of_z s.ranges.a, by_values direction s.ranges.a s.ranges.b c.direction.ensures, to_z-of_z (direction-fits a b), by_values side s.ranges.a s.ranges.b c.side.ensures, by_values (λ a b. half a b m) s.ranges.a s.ranges.b c.half.ensures) (axis-first a b m)
