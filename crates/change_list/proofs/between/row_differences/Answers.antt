-- `row_differences`: what stands there and what is still to be written give the whole. Assumes nothing.
use mathlib.Core.Path.{refl}
use native.Mathlib.Omega.{arith}
use borrow.Author.Rules.{rules}
use Rattle.change_list.proofs.Rows.{rowing-next, rowing-end, rowing-fits}
use Rattle.change_list.proofs.between.row_differences.Goals as goal

pub loop-x-preserved : goal.loop-x-preserved
loop-x-preserved c = rowing-next _ _ _ _ _ c.loop-x.invariant c.loop-x-test.true c.requires.1 (search rules) c.bits_of-old.ensures refl c.put_difference-m.ensures

pub returns : goal.returns
returns c = record { put = rowing-end _ _ _ _ _ c.loop-x.invariant (omega arith); all = rowing-fits _ _ _ _ _ c.loop-x.invariant c.loop-x-test.false }
