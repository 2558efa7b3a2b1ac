-- `any_stray_below`: the flag and what is left say what the whole list says. Assumes nothing.
use Rattle.base.proofs.Scan.{Flagged}
use Rattle.sheet.specs.Sheet.{stray_z}
use Rattle.sheet.proofs.checks.any_stray_below.Given as goal

abbrev pub invariant-loop-z : goal.invariant-loop-z
invariant-loop-z l = Flagged (stray_z l.k) l.indices l.z-index l.bad
