-- `limits_no`: each test that is taken denies one of the limits, and past them all hold. Assumes nothing.
use native.Mathlib.Nat.{mul-le-mul}
use native.Mathlib.Omega.{arith}
use Rattle.sheet.proofs.Judging.{limited-fine, limited-bad}
use Rattle.sheet.proofs.checks.limits_no.Goals as goal

pub returns-then-w-gt-MAX_SIDE : goal.returns-then-w-gt-MAX_SIDE
returns-then-w-gt-MAX_SIDE c = limited-bad _ (λ l. omega (arith, l.w-small))

pub returns-then-h-gt-MAX_SIDE : goal.returns-then-h-gt-MAX_SIDE
returns-then-h-gt-MAX_SIDE c = limited-bad _ (λ l. omega (arith, l.h-small))

pub returns-then-k-gt-MAX_ENTRIES : goal.returns-then-k-gt-MAX_ENTRIES
returns-then-k-gt-MAX_ENTRIES c = limited-bad _ (λ l. omega (arith, l.k-small))

pub returns-then-palette-ne-STORAGE : goal.returns-then-palette-ne-STORAGE
returns-then-palette-ne-STORAGE c = limited-bad _ (λ l. c.if-palette-ne-STORAGE.true l.palette-length)

pub returns-then-lab-ne-STORAGE : goal.returns-then-lab-ne-STORAGE
returns-then-lab-ne-STORAGE c = limited-bad _ (λ l. c.if-lab-ne-STORAGE.true l.lab-length)

pub overflow_mul-w : goal.overflow_mul-w
overflow_mul-w c = omega (arith, mul-le-mul c.if-w-gt-MAX_SIDE.false c.if-h-gt-MAX_SIDE.false)

pub returns-then-indices-w : goal.returns-then-indices-w
returns-then-indices-w c = limited-bad _ (λ l. c.if-indices-w.true l.indices-length)

pub returns : goal.returns
returns c =
    let w = c.if-w-gt-MAX_SIDE.false in
    let h = c.if-h-gt-MAX_SIDE.false in
    limited-fine _
    (record {
      w-small = w;
      h-small = h;
      k-small = c.if-k-gt-MAX_ENTRIES.false;
      cells = mul-le-mul w h;
      palette-length = c.if-palette-ne-STORAGE.false;
      lab-length = c.if-lab-ne-STORAGE.false;
      indices-length = c.if-indices-w.false;
    })
