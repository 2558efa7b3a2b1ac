-- `pend_by`: by the test. Assumes nothing.
use borrow.Author.Tests.{eq-eqb, ne_eqb}
use Rattle.tile_copies.specs.Pending.{pending_by}
use borrow.Author.Rules.{rules}
use Rattle.tile_copies.proofs.waiting.pend_by.Goals as goal

pub returns-then-v-eq1 : goal.returns-then-v-eq1
unfolding pending_by
returns-then-v-eq1 c = rw (c.new_bits.ensures.0, eq-eqb _ _ c.if-v-eq1.true)

pub returns : goal.returns
unfolding pending_by
returns c = rw (c.new_bits-2.ensures.0, ne_eqb _ _ c.if-v-eq1.false)
