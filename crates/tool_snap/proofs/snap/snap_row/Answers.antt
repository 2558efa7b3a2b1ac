-- `snap_row`: i pixels so far, and the cache is sound. Assumes nothing.
use mathlib.Core.Path.{◌∙◌}
use Prim.Native.Nat.{◌≤◌, ◌-◌}
use native.Mathlib.Omega.{arith}
use borrow.Author.Rules.{rules}
use mir.Syntax.{w16}
use Rattle.base.proofs.Back.{back}
use Rattle.color_curve.specs.Curve.{curve_of, lab_by}
use Rattle.tool_snap.specs.Snap.{colour_at, snap_at}
use Rattle.tool_snap.specs.Cache.{all_ok}
use Rattle.tool_snap.proofs.Rows.{Row, row-none, row_next, row-all}
use Rattle.tool_snap.proofs.snap.snap_row.Goals as goal

pub loop-i-init : goal.loop-i-init
loop-i-init c = (search rules, row-none _ _ _, c.requires.snapping.cached)

pub snap_pixel-requires : goal.snap_pixel-requires
snap_pixel-requires c = let a = c.requires.snapping in record { tabled = a.tabled; fits = a.fits; k-small = a.k-small; lab-long = a.lab-long; cached = c.loop-i.invariant.2 }

pub loop-i-preserved : goal.loop-i-preserved
unfolding snap_at colour_at
loop-i-preserved c = (search rules, row_next _ c.loop-i.invariant.1 (omega arith) _ (back w16 _ c.snap_pixel.type_inv ∙ c.snap_pixel.ensures.0), c.snap_pixel.ensures.1)

pub shape_of-out : goal.shape_of-out
shape_of-out c = c.loop-i.invariant.1.long

pub returns : goal.returns
returns c = (row-all _ c.loop-i.invariant.1 _ c.loop-i.invariant.0 c.loop-i-test.false, c.loop-i.invariant.2)
