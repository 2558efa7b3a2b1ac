-- `labs::fill_labs` meets its contract. The loop's invariant: the LAB of the first i entries, then what stood there. Assumes nothing.
use mathlib.Core.Path.{refl, ◌∙◌}
use native.Mathlib.Omega.{arith}
use native.Mathlib.Nat.{le_antisymm}
use borrow.Author.Rules.{rules}
use Rattle.sheet.specs.Document.{labs_by}
use Rattle.sheet.proofs.LabStorage.{filled_next, filled-all}
use Rattle.sheet.proofs.labs.fill_labs.Goals as goal

pub loop-i-init : goal.loop-i-init
unfolding labs_by
loop-i-init c = (refl, refl)

pub loop-i-preserved : goal.loop-i-preserved
loop-i-preserved c = (search rules, cc (filled_next _ c.args.palette.now c.args.lab.now c.loop-i.i (omega arith) (omega arith)))

pub returns : goal.returns
returns c = (rw (le_antisymm c.loop-i.auto.i-end c.loop-i-test.false) at c.loop-i.invariant.1) ∙ filled-all _ _ _ _ c.requires.0
