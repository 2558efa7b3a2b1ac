-- `any_stray_below`: the flag and what is left say what the whole list says. Assumes nothing.
use lib.IntN.{ℤ, pos}
use lib.ListN.{get_or}
use mir.Syntax.{w16}
use mir.Val.{SFits}
use mir.Facts.{to_z-of_z}
use borrow.Author.Rules.{rules}
use Rattle.base.proofs.Scan.{flag-step, flag-end}
use Rattle.sheet.proofs.checks.any_stray_below.Goals as goal

pub loop-z-preserved : goal.loop-z-preserved
loop-z-preserved c =
    let z : ℤ = get_or c.args.indices.now c.loop-z.z-index (pos 0) in
    let fits : SFits w16 z = search rules in
    flag-step (pos 0) c.loop-z.invariant c.loop-z-test.true (rw (to_z-of_z fits) at c.is_stray.ensures) c.either-bad.ensures

pub returns : goal.returns
returns c = rw (to_z-of_z c.ranges.k) at (flag-end c.loop-z.invariant c.loop-z-test.false)
