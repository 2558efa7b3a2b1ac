-- `load_curve`: what `load_no` finds, or the LAB of the k entries by the curve. Assumes nothing.
use mathlib.Core.Path.{sym, ◌∙◌}
use native.Mathlib.Omega.{arith}
use borrow.Author.Rules.{rules}
use Rattle.history_curve.specs.Load.{loaded_lab}
use Rattle.history_curve.proofs.Answers.{passes, load-refused, load-done}
use Rattle.history_curve.proofs.load_curve.Goals as goal

pub returns-then-no-ne0 : goal.returns-then-no-ne0
returns-then-no-ne0 c = load-refused _ _ _ _ _ c.load_no-no.ensures c.if-no-ne0.true

pub fill_labs-requires : goal.fill_labs-requires
fill_labs-requires c =
    let p = passes _ _ _ _ (sym c.load_no-no.ensures ∙ c.if-no-ne0.false) in
    let l = p.formed.limits in
    (omega arith, omega arith, p.fits)

pub returns : goal.returns
unfolding loaded_lab
returns c = load-done _ _ _ _ (sym c.load_no-no.ensures ∙ c.if-no-ne0.false) _ c.fill_labs.ensures
