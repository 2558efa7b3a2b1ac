-- `placed`: its two tests are the definition's. Assumes nothing.
use native.Mathlib.Omega.{arith}
use borrow.Author.Tests.{eq-eqb, ne_eqb}
use Rattle.tool_paste_model.specs.Pasting.{placed_of}
use Rattle.tool_paste.proofs.placed.Goals as goal

pub returns-then-x-eq0 : goal.returns-then-x-eq0
unfolding placed_of
returns-then-x-eq0 c = rw (eq-eqb _ _ c.if-x-eq0.true)

pub returns-then-y-eq0 : goal.returns-then-y-eq0
unfolding placed_of
returns-then-y-eq0 c = rw (ne_eqb _ _ c.if-x-eq0.false, eq-eqb _ _ c.if-y-eq0.true)

pub overflow_cast-result : goal.overflow_cast-result
overflow_cast-result c = let h = c.requires.0 (omega (arith, c.if-x-eq0.false)) in omega arith

pub overflow_cast-result-2 : goal.overflow_cast-result-2
overflow_cast-result-2 c = let h = c.requires.1 (omega (arith, c.if-y-eq0.false)) in omega arith

pub overflow_cast-result-3 : goal.overflow_cast-result-3
overflow_cast-result-3 c = let h = c.requires.0 (omega (arith, c.if-x-eq0.false)) in omega arith

pub overflow_cast-result-4 : goal.overflow_cast-result-4
overflow_cast-result-4 c = let h = c.requires.1 (omega (arith, c.if-y-eq0.false)) in omega arith

pub returns : goal.returns
unfolding placed_of
returns c = rw (ne_eqb _ _ c.if-x-eq0.false, ne_eqb _ _ c.if-y-eq0.false)
