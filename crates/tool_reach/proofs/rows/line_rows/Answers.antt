-- `line_rows`: its points lie from the least of the two rows to the greatest. Assumes nothing.
use mir.Syntax.{w32}
use mir.Facts.{to_z-of_z}
use Rattle.base.specs.Ints.{min_z, max_z}
use Rattle.base.proofs.Back.{back, by_values}
use Rattle.tool_line.specs.Line.{point}
use Rattle.tool_reach.proofs.Reached.{ends_close, ends-down}
use borrow.Author.Rules.{rules}
use Rattle.tool_reach.proofs.rows.line_rows.Goals as goal

pub stroke_rows-requires : goal.stroke_rows-requires
stroke_rows-requires c =
    let low = by_values min_z c.ranges.ay c.ranges.by c.min_i32.ensures in
    let high = by_values max_z c.ranges.ay c.ranges.by c.max_i32.ensures in
    let e = ends_close _ _ c.requires.1 c.requires.2 in
    rw (back w32 _ c.min_i32.type_inv, back w32 _ c.max_i32.type_inv, low, high) (c.requires.0, e.0, e.1)

pub returns : goal.returns
returns c ax bx =
    let a = c.args in
    let low = by_values min_z c.ranges.ay c.ranges.by c.min_i32.ensures in
    let high = by_values max_z c.ranges.ay c.ranges.by c.max_i32.ensures in
    let down = ends-down (point ax a.ay) (point bx a.by) in
    c.stroke_rows.ensures _ (rw (back w32 _ c.min_i32.type_inv, back w32 _ c.max_i32.type_inv, low, high) down)
