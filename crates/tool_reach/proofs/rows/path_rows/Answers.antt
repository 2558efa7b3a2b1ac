-- `path_rows`: none of no point; else from the least to the greatest row. Assumes nothing.
use native.Mathlib.Omega.{arith}
use mir.Syntax.{w32}
use mir.Val.{SFits}
use mir.Facts.{to_z-of_z}
use Rattle.tool_reach.proofs.Reached.{none-held}
use borrow.Author.Rules.{rules}
use Rattle.tool_reach.proofs.rows.path_rows.Goals as goal

pub returns-then-points-lt2 : goal.returns-then-points-lt2
returns-then-points-lt2 c = none-held _ _ _ c.if-points-lt2.true

pub returns : goal.returns
returns c =
    let r = c.reach_of-r.result in
    let low : SFits w32 r.low = record { sfits = omega arith } in
    let high : SFits w32 r.high = record { sfits = omega arith } in
    c.stroke_rows.ensures _ (rw (to_z-of_z low, to_z-of_z high) c.reach_of-r.ensures.each)
