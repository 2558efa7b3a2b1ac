-- `lab_on`: the three values lie from 0 to 1. Assumes nothing.
use native.Mathlib.Omega.{arith}
use Rattle.color_curve.specs.Curve.{lab_on}
use Rattle.color_curve.proofs.Fit.{rules}
use Rattle.color_curve.proofs.Sessions.{on_values}
use Rattle.color_curve.proofs.lab_on.Goals as goal

pub bounds-curve-rgb : goal.bounds-curve-rgb
bounds-curve-rgb c = rw (rules _ c.requires).count (omega arith)

pub bounds-curve-rgb-2 : goal.bounds-curve-rgb-2
bounds-curve-rgb-2 c = rw (rules _ c.requires).count (omega arith)

pub bounds-curve-rgb-3 : goal.bounds-curve-rgb-3
bounds-curve-rgb-3 c = rw (rules _ c.requires).count (omega arith)

pub lab_of_linear-requires : goal.lab_of_linear-requires
lab_of_linear-requires c = on_values _ c.requires _ (omega arith) (omega arith) (omega arith)

pub returns : goal.returns
unfolding lab_on
returns c = c.lab_of_linear.ensures
