-- `put_place`: by the test. Assumes nothing.
use native.Mathlib.Omega.{arith}
use borrow.Author.Tests.{eq-eqb}
use Rattle.layer_word.proofs.Painted.{splice-same}
use Rattle.layer_top.proofs.put_place.Goals as goal

pub returns-else-x-y : goal.returns-else-x-y
returns-else-x-y c = rw (eq-eqb _ _ c.if-x-y.false) (splice-same _ _ 4 (omega (arith, c.requires.1, c.requires.2)))
