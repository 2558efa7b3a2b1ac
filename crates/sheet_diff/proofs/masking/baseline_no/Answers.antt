-- `baseline_no`: each test that is taken denies one of the sizes; past them the scan decides. Assumes nothing.
use mathlib.Core.Path.{◌≡◌, sym, ◌∙◌}
use Prim.Native.Nat.{◌^◌, ◌<◌}
use native.Mathlib.Nat.{mul-le-mul}
use native.Mathlib.Omega.{arith}
use mir.Syntax.{w16}
use mir.Val.{hbits}
use mir.Facts.{to_z_pos}
use Rattle.base.specs.Lists.{some}
use Rattle.sheet.specs.Sheet.{stray}
use Rattle.sheet.proofs.Strays.{some-stray}
use Rattle.sheet_diff.specs.Mask.{baseline_of}
use Rattle.sheet_diff.proofs.Baselines.{Sized, based-bad, based-stray, based-fine}
use Rattle.sheet_diff.proofs.masking.baseline_no.Goals as goal
use Rattle.sheet_diff.proofs.masking.baseline_no.Goals.{After-any_stray_below, Else-base_h-h}

-- past the sizes
past : (c : Else-base_h-h) → let a = c.args in Sized a.w a.h (baseline_of a.base_w a.base_h a.base_k a.base.now a.base_indices.now)
past c =
    record {
      w-small = c.if-base_w-gt-MAX_SIDE.false;
      h-small = c.if-base_h-gt-MAX_SIDE.false;
      k-small = c.if-base_k-gt-MAX_ENTRIES.false;
      palette-length = c.if-base-ne-STORAGE.false;
      indices-length = c.if-base_indices-base_w.false;
      same_w = c.if-base_w-w.false;
      same-h = c.if-base_h-h.false;
    }

-- the scan's bound is the baseline's count
strays : (c : After-any_stray_below) → let a = c.args in c.any_stray_below.result ≡ some (stray a.base_k) a.base_indices.now
strays c =
    let small : c.args.base_k < 2 ^ hbits w16 = omega arith in
    (rw (to_z_pos w16 small) at c.any_stray_below.ensures) ∙ some-stray _ _

pub returns-then-base_w-gt-MAX_SIDE : goal.returns-then-base_w-gt-MAX_SIDE
returns-then-base_w-gt-MAX_SIDE c = based-bad _ _ _ (λ f. omega (arith, f.w-small))

pub returns-then-base_h-gt-MAX_SIDE : goal.returns-then-base_h-gt-MAX_SIDE
returns-then-base_h-gt-MAX_SIDE c = based-bad _ _ _ (λ f. omega (arith, f.h-small))

pub returns-then-base_k-gt-MAX_ENTRIES : goal.returns-then-base_k-gt-MAX_ENTRIES
returns-then-base_k-gt-MAX_ENTRIES c = based-bad _ _ _ (λ f. omega (arith, f.k-small))

pub returns-then-base-ne-STORAGE : goal.returns-then-base-ne-STORAGE
returns-then-base-ne-STORAGE c = based-bad _ _ _ (λ f. c.if-base-ne-STORAGE.true f.palette-length)

pub overflow_mul-base_w : goal.overflow_mul-base_w
overflow_mul-base_w c = omega (arith, mul-le-mul c.if-base_w-gt-MAX_SIDE.false c.if-base_h-gt-MAX_SIDE.false)

pub returns-then-base_indices-base_w : goal.returns-then-base_indices-base_w
returns-then-base_indices-base_w c = based-bad _ _ _ (λ f. c.if-base_indices-base_w.true f.indices-length)

pub returns-then-base_w-w : goal.returns-then-base_w-w
returns-then-base_w-w c = based-bad _ _ _ (λ f. c.if-base_w-w.true f.same_w)

pub returns-then-base_h-h : goal.returns-then-base_h-h
returns-then-base_h-h c = based-bad _ _ _ (λ f. c.if-base_h-h.true f.same-h)

pub returns-then-any_stray_below : goal.returns-then-any_stray_below
returns-then-any_stray_below c = based-stray _ _ _ (past (goal.at.returns-then-any_stray_below c).Else-base_h-h) (sym (strays (goal.at.returns-then-any_stray_below c).After-any_stray_below) ∙ c.if-any_stray_below.true)

pub returns : goal.returns
returns c = based-fine _ _ _ (past (goal.at.returns c).Else-base_h-h) (sym (strays (goal.at.returns c).After-any_stray_below) ∙ c.if-any_stray_below.false)
