-- `put_clip`: the bytes of i pixels so far. Assumes nothing.
use Prim.Native.Nat.{◌-◌}
use native.Mathlib.Omega.{arith}
use borrow.Author.Rules.{rules}
use lib.ListN.{get_or, length-take, length-drop}
use lib.IntN.{pos}
use mir.Facts.{to_z-of_z}
use mir.Syntax.{w16}
use mir.Val.{SFits}
use Rattle.tool_clip.proofs.Bytes.{Put, put-none, put_next, put_all}
use Rattle.tool_clip.proofs.rgba.put_clip.Goals as goal

pub loop-i-init : goal.loop-i-init
loop-i-init c = put-none _ _ _ _

pub put_rgba-requires : goal.put_rgba-requires
put_rgba-requires c = (search rules, search rules, simp (length-take, length-drop) (omega arith))

pub loop-i-preserved : goal.loop-i-preserved
loop-i-preserved c =
    let fits : SFits w16 (get_or c.args.clip.now c.loop-i.i (pos 0)) = search rules in
    put_next _ _ _ c.loop-i.invariant c.requires.2 c.loop-i-test.true _ (rw (to_z-of_z fits) at c.put_rgba.ensures)

pub shape_of-out : goal.shape_of-out
shape_of-out c = c.loop-i.invariant.long

pub returns : goal.returns
returns c = put_all _ _ _ c.loop-i.invariant c.loop-i-test.false
