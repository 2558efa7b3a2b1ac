-- `old_in`: by the test. Assumes nothing.
use mir.Syntax.{w16}
use borrow.Author.Tests.{eq-eqb, ne_eqb}
use mir.Val.{of_z}
use native.Mathlib.Omega.{arith}
use Rattle.base.proofs.Back.{by_value}
use Rattle.tile_copies.specs.Pending.{old_in}
use borrow.Author.Rules.{rules}
use Rattle.tile_copies.proofs.waiting.old_in.Goals as goal

pub returns-then-v-eq1 : goal.returns-then-v-eq1
unfolding old_in
returns-then-v-eq1 c = (rw (eq-eqb _ _ c.if-v-eq1.true), omega arith)

pub returns : goal.returns
unfolding old_in
returns c = (rw (ne_eqb _ _ c.if-v-eq1.false) (by_value (of_z w16) c.ranges.own c.bits_of.ensures), omega arith)
