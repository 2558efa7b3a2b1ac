-- `neighbour`: each test is the definition's. Assumes nothing.
use native.Mathlib.Nat.{mod-lt}
use native.Mathlib.Omega.{arith}
use borrow.Author.Tests.{eq-eqb, ne_eqb, lt-ltb, le-ltb}
use Rattle.tool_fill_model.specs.Flood.{neighbour}
use Rattle.tool_fill_model.proofs.Neighbours.{some-column}
use borrow.Author.Rules.{rules}
use Rattle.tool_flood.proofs.reach.neighbour.Goals as goal

pub returns-then-p-w-eq0 : goal.returns-then-p-w-eq0
unfolding neighbour
returns-then-p-w-eq0 c = simp (eq-eqb _ _ c.if-d-eq0.true, eq-eqb _ _ c.if-p-w-eq0.true)

pub overflow_sub-result : goal.overflow_sub-result
overflow_sub-result c = some-column _ _ c.if-p-w-eq0.false

pub returns-then-d-eq0 : goal.returns-then-d-eq0
unfolding neighbour
returns-then-d-eq0 c = simp (eq-eqb _ _ c.if-d-eq0.true, ne_eqb _ _ c.if-p-w-eq0.false)

pub overflow_add-p : goal.overflow_add-p
overflow_add-p c = record { fits = omega (arith, mod-lt c.args.p c.requires.0) }

pub returns-then-p-w : goal.returns-then-p-w
unfolding neighbour
returns-then-p-w c = simp (ne_eqb _ _ c.if-d-eq0.false, eq-eqb _ _ c.if-d-eq1.true, eq-eqb _ _ c.if-p-w.true)

pub returns-then-d-eq1 : goal.returns-then-d-eq1
unfolding neighbour
returns-then-d-eq1 c = simp (ne_eqb _ _ c.if-d-eq0.false, eq-eqb _ _ c.if-d-eq1.true, ne_eqb _ _ c.if-p-w.false)

pub returns-then-p-w-2 : goal.returns-then-p-w-2
unfolding neighbour
returns-then-p-w-2 c = simp (ne_eqb _ _ c.if-d-eq0.false, ne_eqb _ _ c.if-d-eq1.false, eq-eqb _ _ c.if-d-eq2.true, lt-ltb _ _ c.if-p-w-2.true)

pub returns-then-d-eq2 : goal.returns-then-d-eq2
unfolding neighbour
returns-then-d-eq2 c = simp (ne_eqb _ _ c.if-d-eq0.false, ne_eqb _ _ c.if-d-eq1.false, eq-eqb _ _ c.if-d-eq2.true, le-ltb _ _ c.if-p-w-2.false)

pub returns-then-p-w-3 : goal.returns-then-p-w-3
unfolding neighbour
returns-then-p-w-3 c = simp (ne_eqb _ _ c.if-d-eq0.false, ne_eqb _ _ c.if-d-eq1.false, ne_eqb _ _ c.if-d-eq2.false, lt-ltb _ _ c.if-p-w-3.true)

pub returns : goal.returns
unfolding neighbour
returns c = simp (ne_eqb _ _ c.if-d-eq0.false, ne_eqb _ _ c.if-d-eq1.false, ne_eqb _ _ c.if-d-eq2.false, le-ltb _ _ c.if-p-w-3.false)
