-- `linear_in`: the division up to 10, the table from 11 on. Assumes nothing.
use borrow.Author.Rules.{rules}
use native.Mathlib.Omega.{arith}
use Rattle.color_lab.proofs.LinearTable.{linear-low, linear-high}
use Rattle.color_lab.proofs.curve.linear_in.Goals as goal

pub returns-then-c-le10 : goal.returns-then-c-le10
returns-then-c-le10 c = linear-low _ c.if-c-le10.true

pub returns-else-c-le10 : goal.returns-else-c-le10
returns-else-c-le10 c = linear-high _ _ c.requires c.if-c-le10.false (omega arith)
