-- `any_differs`: by its tests. Assumes nothing.
use borrow.Author.Tests.{eq-eqb, ne_eqb}
use borrow.Author.Rules.{rules}
use Rattle.layer.proofs.painted.any_differs.Goals as goal

pub returns-then-w-first_w : goal.returns-then-w-first_w
returns-then-w-first_w c = rw (ne_eqb _ _ c.if-w-first_w.true)

pub returns-then-h-first_h : goal.returns-then-h-first_h
returns-then-h-first_h c = rw (eq-eqb _ _ c.if-w-first_w.false, ne_eqb _ _ c.if-h-first_h.true)

pub returns : goal.returns
returns c = rw (eq-eqb _ _ c.if-w-first_w.false, eq-eqb _ _ c.if-h-first_h.false) c.sizes_differ.ensures
