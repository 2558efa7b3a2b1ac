-- `move_rows`: the least of the two starts, and the greatest of the two ends. Assumes nothing.
use mathlib.Core.Path.{◌≡◌}
use native.Mathlib.Omega.{arith}
use Rattle.base.proofs.Back.{by_value}
use Rattle.tool_paste_model.specs.Blocks.{landing}
use Rattle.tool_paste_model.proofs.Landings.{offset_of}
use Rattle.tool_paste_model.proofs.MovePlacing.{move-ends, move-hull}
use borrow.Author.Rules.{rules}
use Rattle.tool_move.proofs.moving.move_rows.Goals as goal
use Rattle.tool_move.proofs.moving.move_rows.Goals.{After-landing_on}

-- where the selection's rows land
lands : (c : After-landing_on) → let a = c.args in c.landing_on.result ≡ landing a.s.y a.s.h (offset_of a.dy) a.h
lands c =
    let a = c.args in
    by_value (λ z. landing a.s.y a.s.h (offset_of z) a.h) c.ranges.dy c.landing_on.ensures

pub overflow_add-to : goal.overflow_add-to
overflow_add-to c =
    let h = c.ranges.h in
    omega (arith, move-ends c.args.s c.args.dy c.requires.0 c.requires.1 (lands (goal.at.overflow_add-to c).After-landing_on) c.landed_rows-to.ensures)

pub returns : goal.returns
returns c =
    move-hull c.args.s c.args.dy c.requires.0 c.requires.1 (lands (goal.at.returns c).After-landing_on) c.landed_rows-to.ensures c.min-first.ensures c.max-end.ensures
