-- `paint_stamp`: the brush's box, clipped, has the places of its points. Assumes nothing.
use mathlib.Core.Path.{◌≡◌, sym, ap, ◌∙◌}
use Prim.Native.Nat.{◌+◌}
use mir.Facts.{to_z-of_z}
use Rattle.tool_line.specs.Line.{point}
use Rattle.tool_stamp.specs.Places.{set_all}
use Rattle.tool_stamp.proofs.Fitting.{clipped-ends, clipped-rows}
use Rattle.tool_stamp.proofs.Stamps.{axis, one-stamp}
use borrow.Author.Rules.{rules}
use Rattle.tool_stamp.proofs.stamp.paint_stamp.Goals as goal
use Rattle.tool_stamp.proofs.stamp.paint_stamp.Goals.{After-stamp_run-across, After-stamp_run-down}

across : (c : After-stamp_run-across) → let a = c.args in c.stamp_run-across.result ≡ axis a.n a.x a.region.x (a.region.x + a.region.w)
unfolding axis
across c = rw (to_z-of_z c.ranges.x) at c.stamp_run-across.ensures

down : (c : After-stamp_run-down) → let a = c.args in c.stamp_run-down.result ≡ axis a.n a.y a.region.y (a.region.y + a.region.h)
unfolding axis
down c = rw (to_z-of_z c.ranges.y) at c.stamp_run-down.ensures

pub stamp_run-across-requires : goal.stamp_run-across-requires
stamp_run-across-requires c = rw (to_z-of_z c.ranges.x) (c.requires.1, c.requires.2)

pub stamp_run-down-requires : goal.stamp_run-down-requires
stamp_run-down-requires c = rw (to_z-of_z c.ranges.y) (c.requires.1, c.requires.3)

pub paint_box-requires : goal.paint_box-requires
unfolding axis
paint_box-requires c = rw (down (goal.at.paint_box-requires c).After-stamp_run-down, across (goal.at.paint_box-requires c).After-stamp_run-across) (clipped-rows _ _ _ _ _ c.requires.0, clipped-ends _ _ _ _ _ c.requires.0.right)

pub returns : goal.returns
returns c = let a = c.args in (rw (down (goal.at.returns c).After-stamp_run-down, across (goal.at.returns c).After-stamp_run-across) at c.paint_box.ensures) ∙ ap (λ ps. set_all ps a.v a.scratch.now) (sym (one-stamp a.region a.w a.n c.requires.1 (point a.x a.y)))
