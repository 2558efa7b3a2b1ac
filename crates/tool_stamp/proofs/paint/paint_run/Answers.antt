-- `paint_run`: so far the first i places are painted. Assumes nothing.
use Prim.Native.Nat.{◌-◌, ◌≤◌}
use mathlib.Core.Path.{◌≡◌, refl}
use native.Mathlib.Omega.{arith}
use lib.ListN.{length}
use Rattle.base.specs.Lists.{range}
use Rattle.tool_stamp.specs.Places.{set_all}
use Rattle.tool_stamp.proofs.Painted.{run_step}
use borrow.Author.Rules.{rules}
use Rattle.tool_stamp.proofs.paint.paint_run.Goals as goal

pub loop-i-init : goal.loop-i-init
unfolding set_all range
loop-i-init c = (search rules, refl, refl)

pub loop-i-preserved : goal.loop-i-preserved
loop-i-preserved c = (search rules, search rules, run_step _ _ _ _ _ c.loop-i.invariant.2)

pub returns : goal.returns
returns c = let all : c.loop-i.i ≡ c.args.count = omega arith in rw all at c.loop-i.invariant.2
