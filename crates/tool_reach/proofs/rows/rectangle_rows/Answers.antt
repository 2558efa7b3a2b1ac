-- `rectangle_rows`: its rows are from the least of the two to the greatest, clipped. Assumes nothing.
use mir.Syntax.{w32}
use Rattle.base.specs.Ints.{min_z, max_z}
use Rattle.base.proofs.Back.{back, by_values}
use Rattle.tool_line.specs.Line.{point}
use Rattle.tool_reach.proofs.Reached.{rows-hold, clipped-wide, rectangle-down}
use borrow.Author.Rules.{rules}
use Rattle.tool_reach.proofs.rows.rectangle_rows.Goals as goal

pub returns : goal.returns
returns c ax bx filled =
    let a = c.args in
    let f = c.ranges in
    let low = by_values min_z f.ay f.by c.min_i32.ensures in
    let high = by_values max_z f.ay f.by c.max_i32.ensures in
    let e = rw (back w32 _ c.min_i32.type_inv, back w32 _ c.max_i32.type_inv, low, high) at c.clip.ensures in
    let wide = clipped-wide a.region (min_z a.ay a.by) (max_z a.ay a.by) in
    rw e (rows-hold _ _ _ _ wide _ (rectangle-down (point ax a.ay) (point bx a.by) filled))
