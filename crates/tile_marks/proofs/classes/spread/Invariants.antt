-- `spread`: from the last place on. Assumes nothing.
use Prim.Native.Nat.{◌-◌}
use native.Mathlib.Omega.{arith}
use mathlib.Core.Path.{refl}
use Rattle.tile_marks.proofs.Spreading.{Spreading, spreading-start, spreading-step, spreading-end, code_is}
use borrow.Author.Rules.{rules}
use Rattle.tile_marks.proofs.classes.spread.Given as goal

abbrev pub invariant-loop-p : goal.invariant-loop-p
invariant-loop-p l = Spreading l.w l.t l.initial.s l.s l.p
