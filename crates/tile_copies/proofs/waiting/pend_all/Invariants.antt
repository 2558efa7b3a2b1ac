-- `pend_all`: one number an element. Assumes nothing.
use lib.ListN.{length, get_or}
use Prim.Native.Nat.{◌-◌, ◌≤◌, ◌<◌}
use native.Mathlib.Omega.{arith}
use mathlib.Core.Path.{◌≡◌}
use Rattle.tile_marks.proofs.Runs.{Running, running-start, running-step}
use Rattle.tile_marks.specs.Marks.{place_at}
use Rattle.tile_copies.specs.Pending.{pending_by, pending}
use borrow.Author.Rules.{rules}
use Rattle.tile_copies.proofs.waiting.pend_all.Given as goal

abbrev pub invariant-loop-change : goal.invariant-loop-change
invariant-loop-change l = Running (place_at l.w l.list) (λ j. pending_by (get_or l.list j 0)) l.initial.s l.s l.change-index
