-- `copy_row`: i indices so far. Assumes nothing.
use Prim.Native.Nat.{◌≤◌, ◌-◌}
use native.Mathlib.Omega.{arith}
use borrow.Author.Rules.{rules}
use mir.Syntax.{w16}
use Rattle.base.proofs.Back.{back}
use Rattle.tool_snap.proofs.Rows.{Row, row-none, row_next, row-all}
use Rattle.tool_clip.specs.Clips.{index_of}
use Rattle.tool_clip.proofs.copying.copy_row.Goals as goal

pub loop-i-init : goal.loop-i-init
loop-i-init c = (search rules, row-none _ _ _)

pub loop-i-preserved : goal.loop-i-preserved
loop-i-preserved c = (search rules, row_next _ c.loop-i.invariant.1 (omega arith) _ (back w16 _ c.out-1.given))

pub shape_of-out : goal.shape_of-out
shape_of-out c = c.loop-i.invariant.1.long

pub returns : goal.returns
returns c = row-all _ c.loop-i.invariant.1 _ c.loop-i.invariant.0 c.loop-i-test.false
