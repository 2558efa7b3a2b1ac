-- `paint_run`: so far the first i places are painted. Assumes nothing.
use Prim.Native.Nat.{◌-◌, ◌≤◌}
use mathlib.Core.Path.{◌≡◌, refl}
use native.Mathlib.Omega.{arith}
use lib.ListN.{length}
use Rattle.base.specs.Lists.{range}
use Rattle.tool_stamp.specs.Places.{set_all}
use Rattle.tool_stamp.proofs.Painted.{run_step}
use borrow.Author.Rules.{rules}
use Rattle.tool_stamp.proofs.paint.paint_run.Given as goal

abbrev pub invariant-loop-i : goal.invariant-loop-i
invariant-loop-i l = (l.i ≤ l.count) × (length l.scratch ≡ length l.initial.scratch) × (l.scratch ≡ set_all (range l.at l.i) l.v l.initial.scratch)

abbrev pub decreases-loop-i : goal.decreases-loop-i
decreases-loop-i l = l.count - l.i
