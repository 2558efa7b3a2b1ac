-- `paint_two`: the first point, then the line's others. Assumes nothing.
use mir.Facts.{to_z-of_z}
use Rattle.tool_stamp.proofs.Stamps.{near-close}
use Rattle.tool_reach.proofs.Paths.{two-path}
use borrow.Author.Rules.{rules}
use Rattle.tool_brush.proofs.brush.paint_two.Goals as goal

pub paint_stamp-requires : goal.paint_stamp-requires
paint_stamp-requires c = let f = c.ranges in rw (to_z-of_z f.ax, to_z-of_z f.ay) (c.requires.0, c.requires.1, near-close _ c.requires.2.across, near-close _ c.requires.2.down)

pub paint_line-requires : goal.paint_line-requires
paint_line-requires c = let f = c.ranges in rw (to_z-of_z f.ax, to_z-of_z f.ay, to_z-of_z f.bx, to_z-of_z f.by, c.paint_stamp.auto.scratch) (c.requires.0, c.requires.1, c.requires.2, c.requires.3)

pub returns : goal.returns
returns c = let f = c.ranges in two-path _ _ _ _ _ _ _ _ _ (rw (to_z-of_z f.ax, to_z-of_z f.ay) at c.paint_stamp.ensures) (rw (to_z-of_z f.ax, to_z-of_z f.ay, to_z-of_z f.bx, to_z-of_z f.by) at c.paint_line.ensures)
