-- `any_far`: the flag and what is left say what the whole list says. Assumes nothing.
use mathlib.Core.Path.{◌≡◌}
use Prim.Native.Nat.{◌≤◌, ◌-◌}
use borrow.Author.Rules.{rules}
use lib.IntN.{pos}
use lib.ListN.{length, get_or}
use mir.Syntax.{w32}
use mir.Val.{SFits}
use Rattle.base.proofs.Scan.{Flagged, flag-step, flag-end}
use Rattle.base.proofs.Back.{by_value}
use Rattle.base.specs.Ints.{far}
use Rattle.tool_draw.proofs.calls.any_far.Goals as goal

pub loop-z-preserved : goal.loop-z-preserved
loop-z-preserved c =
    let fits : SFits w32 (get_or c.args.points.now c.loop-z.z-index (pos 0)) = search rules in
    flag-step (pos 0) c.loop-z.invariant c.loop-z-test.true (by_value far fits c.is_far.ensures) c.either-bad.ensures

pub returns : goal.returns
returns c = flag-end c.loop-z.invariant c.loop-z-test.false
