-- `land_all`: place by place; classes and marks stay. Assumes nothing.
use native.Mathlib.Omega.{arith}
use mathlib.Core.Path.{refl}
use Prim.Native.Nat.{◌-◌, ◌<◌}
use lib.ListN.{length}
use Rattle.tile_marks.proofs.Landing.{Landing, landing-start, class-within, mark-most, landing-room, landing-step, landing-end}
use borrow.Author.Rules.{rules}
use Rattle.tile_marks.proofs.marks.land_all.Given as goal

abbrev pub invariant-loop-p : goal.invariant-loop-p
invariant-loop-p l = Landing l.w l.region l.list l.initial.s l.s l.p
