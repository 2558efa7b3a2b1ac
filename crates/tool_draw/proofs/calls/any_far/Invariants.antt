-- `any_far`: the flag and what is left say what the whole list says. Assumes nothing.
use mathlib.Core.Path.{◌≡◌}
use Prim.Native.Nat.{◌≤◌, ◌-◌}
use borrow.Author.Rules.{rules}
use lib.IntN.{pos}
use lib.ListN.{length, get_or}
use mir.Syntax.{w32}
use Rattle.base.proofs.Scan.{Flagged, flag-step, flag-end}
use Rattle.base.proofs.Back.{back}
use Rattle.base.specs.Ints.{far}
use Rattle.tool_draw.proofs.calls.any_far.Given as goal

abbrev pub invariant-loop-z : goal.invariant-loop-z
invariant-loop-z l = Flagged far l.points l.z-index l.bad
