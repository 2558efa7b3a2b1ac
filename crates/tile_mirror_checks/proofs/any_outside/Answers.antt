-- `any_outside`: the flag and what is left say what the whole list says. Assumes nothing.
use Prim.Native.Nat.{◌-◌, ◌≤◌}
use mathlib.Core.Path.{sym, ◌∙◌}
use lib.ListN.{length}
use Rattle.edit.specs.Change.{outside, unpacked}
use Rattle.base.proofs.Scan.{Flagged, flag-step, flag-end}
use Rattle.base.proofs.Nowhere.{some-map}
use borrow.Author.Rules.{rules}
use Rattle.tile_mirror_checks.proofs.any_outside.Goals as goal

pub loop-change-preserved : goal.loop-change-preserved
loop-change-preserved c = flag-step 0 c.loop-change.invariant c.loop-change-test.true c.is_outside.ensures c.either-off.ensures

pub returns : goal.returns
returns c = flag-end c.loop-change.invariant c.loop-change-test.false ∙ sym (some-map unpacked _ _)
