-- `mark_all`: one number an element. Assumes nothing.
use lib.ListN.{length, get_or}
use mathlib.Core.Path.{◌≡◌, ap, ◌∙◌}
use native.Mathlib.Omega.{arith}
use Prim.Native.Nat.{ℕ, ◌-◌, ◌%◌, ◌≤◌, ◌<◌, ◌^◌}
use Rattle.tile_marks.specs.Marks.{place_at, marked_by, marked}
use Rattle.tile_marks.proofs.Runs.{Running, running-start, running-step, class-read, mark-read}
use borrow.Author.Rules.{rules}
use Rattle.tile_marks.proofs.marks.mark_all.Given as goal

abbrev pub invariant-loop-i : goal.invariant-loop-i
invariant-loop-i l = Running (λ j. get_or l.initial.s (place_at l.w l.list j) 0) (marked_by l.w l.list) l.initial.s l.s l.i
