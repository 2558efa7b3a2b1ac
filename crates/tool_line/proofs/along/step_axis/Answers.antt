-- `step_axis`: the rest with the side added, less a whole place where there is one. Assumes nothing.
use borrow.Author.Rules.{rules}
use mir.Facts.{to_z-of_z}
use Rattle.tool_line.proofs.Walks.{Moves, moves, axis-stays, axis-moves}
use Rattle.tool_line.proofs.along.step_axis.Goals as goal
use Rattle.tool_line.proofs.along.step_axis.Goals.{Start}

fit : (c : Start) → Moves c.args.c
fit c = moves c.args.c c.args.m c.requires

pub returns-then-rest-m : goal.returns-then-rest-m
returns-then-rest-m c =
    let s = c.before.before.before.before in
    rw (to_z-of_z (fit s).at, to_z-of_z (fit s).step) (axis-stays s.args.m s.args.c c.if-rest-m.true)

pub overflow_add-result : goal.overflow_add-result
overflow_add-result c =
    let s = c.before.before.before.before.before.before in
    rw (to_z-of_z (fit s).at, to_z-of_z (fit s).step) (fit s).next

pub returns : goal.returns
returns c =
    let s = c.before.before.before.before.before.before in
    rw (to_z-of_z (fit s).at, to_z-of_z (fit s).step, to_z-of_z (fit s).next) (axis-moves s.args.m s.args.c c.if-rest-m.false s.requires)
