-- `with_lab`: what `check_marked` finds, then the marks. Assumes nothing.
use native.Mathlib.Omega.{arith}
use Rattle.sheet.proofs.Answers.{lab-refused, lab-done}
use Rattle.sheet.proofs.document.with_lab.Goals as goal

pub returns-then-no-ne0 : goal.returns-then-no-ne0
returns-then-no-ne0 c = lab-refused _ _ _ c.check_marked-no.ensures c.if-no-ne0.true

pub clear_locks-requires : goal.clear_locks-requires
clear_locks-requires c = let m = c.check_marked-no.ensures.fine c.if-no-ne0.false in omega (arith, m.marks, m.formed.limits.k-small)

pub returns : goal.returns
returns c = lab-done _ _ _ c.check_marked-no.ensures c.if-no-ne0.false _ c.clear_locks.ensures
