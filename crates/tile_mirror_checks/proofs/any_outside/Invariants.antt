-- `any_outside`: the flag and what is left say what the whole list says. Assumes nothing.
use Prim.Native.Nat.{◌-◌, ◌≤◌}
use mathlib.Core.Path.{sym, ◌∙◌}
use lib.ListN.{length}
use Rattle.edit.specs.Change.{outside, unpacked}
use Rattle.base.proofs.Scan.{Flagged, flag-step, flag-end}
use Rattle.base.proofs.Nowhere.{some-map}
use borrow.Author.Rules.{rules}
use Rattle.tile_mirror_checks.proofs.any_outside.Given as goal

abbrev pub invariant-loop-change : goal.invariant-loop-change
invariant-loop-change l = Flagged (λ c. outside l.w l.h (unpacked c)) l.list l.change-index l.off
