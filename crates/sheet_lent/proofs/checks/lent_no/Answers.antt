-- `lent_no`: each test that is taken denies one of the facts, and past them all hold. Assumes nothing.
use Rattle.sheet_lent.proofs.Judging.{lent-fine, lent-bad}
use Rattle.sheet_lent.proofs.checks.lent_no.Goals as goal

pub returns-then-to_w-w : goal.returns-then-to_w-w
returns-then-to_w-w c = lent-bad _ _ _ (λ l. c.if-to_w-w.true l.w-same)

pub returns-then-to_h-h : goal.returns-then-to_h-h
returns-then-to_h-h c = lent-bad _ _ _ (λ l. c.if-to_h-h.true l.h-same)

pub returns-then-palette-ne-STORAGE : goal.returns-then-palette-ne-STORAGE
returns-then-palette-ne-STORAGE c = lent-bad _ _ _ (λ l. c.if-palette-ne-STORAGE.true l.palette-length)

pub returns-then-lab-ne-STORAGE : goal.returns-then-lab-ne-STORAGE
returns-then-lab-ne-STORAGE c = lent-bad _ _ _ (λ l. c.if-lab-ne-STORAGE.true l.lab-length)

pub returns-then-indices-w : goal.returns-then-indices-w
returns-then-indices-w c = lent-bad _ _ _ (λ l. c.if-indices-w.true l.indices-length)

pub returns-then-locks-ne-MAX_ENTRIES : goal.returns-then-locks-ne-MAX_ENTRIES
returns-then-locks-ne-MAX_ENTRIES c = lent-bad _ _ _ (λ l. c.if-locks-ne-MAX_ENTRIES.true l.locks-length)

pub returns : goal.returns
returns c =
    lent-fine _ _ _
    (record {
      w-same = c.if-to_w-w.false;
      h-same = c.if-to_h-h.false;
      palette-length = c.if-palette-ne-STORAGE.false;
      lab-length = c.if-lab-ne-STORAGE.false;
      indices-length = c.if-indices-w.false;
      locks-length = c.if-locks-ne-MAX_ENTRIES.false;
    })
