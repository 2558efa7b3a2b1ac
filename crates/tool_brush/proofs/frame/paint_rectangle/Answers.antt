-- `paint_rectangle`: its columns and rows, clipped, have the places of its points. Assumes nothing.
use mathlib.Core.Path.{◌≡◌, sym, ap, ◌∙◌}
use Prim.Native.Nat.{◌+◌}
use mir.Syntax.{w32}
use Rattle.base.specs.Ints.{min_z, max_z}
use Rattle.base.proofs.Back.{back, by_values}
use Rattle.tool_line.specs.Line.{point}
use Rattle.tool_stamp.specs.Places.{set_all, clipped, columns_of}
use Rattle.tool_stamp.proofs.Frames.{rectangle-places}
use Rattle.tool_stamp.proofs.Fitting.{columns-end, clipped-rows}
use borrow.Author.Rules.{rules}
use Rattle.tool_brush.proofs.frame.paint_rectangle.Goals as goal
use Rattle.tool_brush.proofs.frame.paint_rectangle.Goals.{After-clip-y, After-columns-x}

across : (c : After-columns-x) → let a = c.args in c.columns-x.result ≡ columns_of (min_z a.ax a.bx) (max_z a.ax a.bx) a.region.x (a.region.x + a.region.w)
across c =
    let f = c.ranges in
    rw (back w32 _ c.min_i32.type_inv, back w32 _ c.max_i32.type_inv, by_values min_z f.ax f.bx c.min_i32.ensures, by_values max_z f.ax f.bx c.max_i32.ensures) at c.columns-x.ensures

down : (c : After-clip-y) → let a = c.args in c.clip-y.result ≡ clipped (min_z a.ay a.by) (max_z a.ay a.by) a.region.y (a.region.y + a.region.h)
down c =
    let f = c.ranges in
    rw (back w32 _ c.min_i32-top.type_inv, back w32 _ c.max_i32-bottom.type_inv, by_values min_z f.ay f.by c.min_i32-top.ensures, by_values max_z f.ay f.by c.max_i32-bottom.ensures) at c.clip-y.ensures

pub paint_rows-requires : goal.paint_rows-requires
paint_rows-requires c = rw (down (goal.at.paint_rows-requires c).After-clip-y, across (goal.at.paint_rows-requires c).After-columns-x) (clipped-rows _ _ _ _ _ c.requires, columns-end _ _ _ _ _ c.requires.right)

pub returns : goal.returns
returns c =
    let a = c.args in
    let e = rw (back w32 _ c.min_i32-top.type_inv, back w32 _ c.max_i32-bottom.type_inv, by_values min_z c.ranges.ay c.ranges.by c.min_i32-top.ensures, by_values max_z c.ranges.ay c.ranges.by c.max_i32-bottom.ensures, down (goal.at.returns c).After-clip-y, across (goal.at.returns c).After-columns-x) at c.paint_rows.ensures in
    e ∙ ap (λ ps. set_all ps a.v a.scratch.now) (sym (rectangle-places a.region a.w (point a.ax a.ay) (point a.bx a.by) a.filled))
