-- `clip`: its two tests are the definition's. Assumes nothing.
use mathlib.Core.Path.{ap}
use native.Mathlib.Omega.{arith}
use borrow.Author.Tests.{eq-eqb, ne_eqb}
use mathlib.Core.Option.{some}
use Rattle.base.specs.Answer.Told.{result}
use Rattle.selection.specs.declared.Selection.{Selection}
use Rattle.selection.proofs.clip.Goals as goal

pub returns-then-x-eq0 : goal.returns-then-x-eq0
returns-then-x-eq0 c = rw (eq-eqb _ _ c.if-x-eq0.true)

pub returns-then-y-eq0 : goal.returns-then-y-eq0
returns-then-y-eq0 c = rw (ne_eqb _ _ c.if-x-eq0.false, eq-eqb _ _ c.if-y-eq0.true)

pub rectangle-requires : goal.rectangle-requires
rectangle-requires c = (c.requires.0 (omega arith), c.requires.1 (omega arith))

pub returns : goal.returns
returns c = rw (ne_eqb _ _ c.if-x-eq0.false, ne_eqb _ _ c.if-y-eq0.false) (ap (λ (s : Selection). result (some s)) c.rectangle.ensures)
