-- `diff::fill_shades` meets its contract. The loop's invariant: the table has the numbers of the transparent index and of the first i entries. Assumes nothing.
use native.Mathlib.Omega.{arith}
use native.Mathlib.Nat.{le_antisymm}
use borrow.Author.Rules.{rules}
use Rattle.sheet_diff.proofs.Shades.{shades-none, shades-more}
use Rattle.sheet_diff.proofs.diff.fill_shades.Goals as goal

pub loop-i-init : goal.loop-i-init
loop-i-init c = shades-none _ _ (search rules)

pub loop-i-preserved : goal.loop-i-preserved
loop-i-preserved c = shades-more c.loop-i.invariant (omega arith) (rw c.rgb_at.ensures at c.number.ensures)

pub returns : goal.returns
returns c = rw (le_antisymm c.loop-i.auto.i-end c.loop-i-test.false) at c.loop-i.invariant
