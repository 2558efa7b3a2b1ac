-- `longer`: the greater of the two sides. Assumes nothing.
use borrow.Author.Rules.{rules}
use Rattle.base.proofs.Back.{by_values}
use Rattle.tool_line.specs.Line.{side, longer}
use Rattle.tool_line.proofs.along.longer.Goals as goal

pub returns : goal.returns
unfolding longer
returns c =
    let f = c.ranges in
    let across = by_values side f.ax f.bx c.side.ensures in
    let down = by_values side f.ay f.by c.side-2.ensures in
    rw (across, down) at c.max.ensures
