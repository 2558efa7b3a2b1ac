-- `widen`: of each bound with row y. Assumes nothing.
use native.Mathlib.Omega.{arith}
use mir.Syntax.{w32}
use mir.Val.{SFits}
use Rattle.base.specs.Ints.{min_z, max_z}
use Rattle.base.proofs.Back.{back, by_values}
use Rattle.tool_reach.specs.Reached.{wider}
use borrow.Author.Rules.{rules}
use Rattle.tool_reach.proofs.rows.widen.Goals as goal

pub returns : goal.returns
unfolding wider
returns c =
    let low : SFits w32 c.args.r.low = record { sfits = omega arith } in
    let high : SFits w32 c.args.r.high = record { sfits = omega arith } in
    let least = by_values min_z low c.ranges.y c.min_i32.ensures in
    let greatest = by_values max_z high c.ranges.y c.max_i32.ensures in
    rw (back w32 _ c.min_i32.type_inv, back w32 _ c.max_i32.type_inv, least, greatest)
