-- A double is written where it is finite. Assumes nothing.
use mathlib.Core.List.{[]}
use mathlib.Core.Path.{sym, ◌∙◌}
use native.Mathlib.Omega.{arith}
use Rattle.c_form.proofs.Numbers.{a-number, double-kept, double-put}
use Rattle.c_bytes.proofs.number.F64Field.put.Goals as goal

pub returns-then-is_unfit : goal.returns-then-is_unfit
returns-then-is_unfit c = double-kept _ [] _ _ (omega (arith, c.requires)) (sym c.is_unfit.ensures ∙ c.if-is_unfit.true)

pub put_f64-requires-clause-t : goal.put_f64-requires-clause-t
put_f64-requires-clause-t c = a-number _ (sym c.is_unfit.ensures ∙ c.if-is_unfit.false)

pub returns : goal.returns
returns c = double-put _ _ _ _ _ (sym c.is_unfit.ensures ∙ c.if-is_unfit.false) c.put_f64.ensures
