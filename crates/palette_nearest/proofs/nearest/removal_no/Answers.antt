-- `removal_no`: 1 to 3 with the marks, 7, 24, 9. Assumes nothing.
use native.Mathlib.Omega.{arith}
use Rattle.palette_model.proofs.Answers.{removal-refused, removal-none, removal-locked, removal-last, removal-fine}
use Rattle.palette_nearest.proofs.nearest.removal_no.Goals as goal

pub returns-then-no-ne0 : goal.returns-then-no-ne0
returns-then-no-ne0 c = removal-refused _ _ _ _ c.check_marked-no.ensures c.if-no-ne0.true

pub returns-then-k-index : goal.returns-then-k-index
returns-then-k-index c = removal-none _ _ _ _ c.check_marked-no.ensures c.if-no-ne0.false c.if-k-index.true

pub bounds-locks-index : goal.bounds-locks-index
bounds-locks-index c = let m = c.check_marked-no.ensures.fine c.if-no-ne0.false in omega (arith, m.marks, m.formed.limits.k-small)

pub returns-then-locks-index : goal.returns-then-locks-index
returns-then-locks-index c = removal-locked _ _ _ _ c.check_marked-no.ensures c.if-no-ne0.false c.if-k-index.false c.if-locks-index.true

pub returns-then-k-lt2 : goal.returns-then-k-lt2
returns-then-k-lt2 c = removal-last _ _ _ _ c.check_marked-no.ensures c.if-no-ne0.false c.if-k-index.false c.if-locks-index.false c.if-k-lt2.true

pub returns : goal.returns
returns c = removal-fine _ _ _ _ c.check_marked-no.ensures c.if-no-ne0.false c.if-k-index.false c.if-locks-index.false c.if-k-lt2.false
