-- `put_clip`: the bytes of i pixels so far. Assumes nothing.
use Prim.Native.Nat.{◌-◌}
use native.Mathlib.Omega.{arith}
use borrow.Author.Rules.{rules}
use lib.ListN.{length, length-take, length-drop}
use mir.Syntax.{w16}
use Rattle.base.proofs.Back.{back}
use Rattle.tool_clip.proofs.Bytes.{Put, put-none, put_next, put_all}
use Rattle.tool_clip.proofs.rgba.put_clip.Given as goal

abbrev pub invariant-loop-i : goal.invariant-loop-i
invariant-loop-i l = Put l.k l.palette l.clip l.initial.out l.out l.i
