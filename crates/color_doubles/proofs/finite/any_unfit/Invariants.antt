-- `finite::any_unfit` meets its contract. The loop's invariant: the flag and what is left say what the whole list says. Assumes nothing.
use Rattle.base.proofs.Scan.{Flagged}
use Rattle.color_doubles.specs.Finite.{unfit}
use Rattle.color_doubles.proofs.finite.any_unfit.Given as goal

abbrev pub invariant-loop-x : goal.invariant-loop-x
invariant-loop-x l = Flagged unfit l.lab l.x-index l.bad
