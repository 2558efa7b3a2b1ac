-- What `diff_mask` answers at each of its tests. Assumes nothing.
use mathlib.Core.Path.{◌≡◌, sym, ◌∙◌}
use mathlib.Core.List.{List, [], ◌∷◌, ◌++◌}
use Prim.Native.Nat.{ℕ, ◌*◌, ◌≤◌, ◌<◌}
use borrow.Author.Tests.{lt-ltb, le-ltb}
use lib.Dec.{ltb}
use lib.ListN.{length}
use Rattle.base.specs.Checks.{◌when◌, first_of, refused_or}
use Rattle.base.specs.Answer.{filled}
use Rattle.base.specs.declared.Counted.TheVariants as counted
use Rattle.base.proofs.First.{first_past, first-here, refused-first}
use Rattle.base.specs.Lists.{over}
use Rattle.sheet.specs.Sheet.{Sheet}
use Rattle.sheet.specs.Checks.{sheet_checks, WellFormed, Judged}
use Rattle.sheet_diff.specs.Mask.{Baseline, baseline_checks, Based, mask_of, diff_mask_of}
use Rattle.sheet.proofs.Judging.{past-sheet, refused-sheet}

module _ (s : Sheet) (b : Baseline) (mask : List ℕ) where
  pub diff-refused : (n : ℕ) → Judged s n → (n ≡ 0 → ⊥) → filled (counted.Refused n) mask ≡ diff_mask_of s b mask
  unfolding diff_mask_of
  diff-refused n j h = refused-sheet s _ (λ m. filled (counted.Refused m) mask) _ n j h

  pub diff-based : WellFormed s → (n : ℕ) → Based s.w s.h b n → (n ≡ 0 → ⊥) → filled (counted.Refused n) mask ≡ diff_mask_of s b mask
  unfolding diff_mask_of
  diff-based f n d h =
      refused-first _ (λ m. filled (counted.Refused m) mask) _ n
      (first-here (baseline_checks s.w s.h b) (16 when ltb (length mask) (s.w * s.h) ∷ []) n d.value h ∙ sym (past-sheet s f _)) h

  past-both : WellFormed s → Based s.w s.h b 0
      → first_of (sheet_checks [] s ++ (baseline_checks s.w s.h b ++ (16 when ltb (length mask) (s.w * s.h) ∷ []))) ≡ first_of (16 when ltb (length mask) (s.w * s.h) ∷ [])
  past-both f d = past-sheet s f _ ∙ first_past (baseline_checks s.w s.h b) _ (sym d.value)

  pub diff-short : WellFormed s → Based s.w s.h b 0 → length mask < length s.indices → filled (counted.Refused 16) mask ≡ diff_mask_of s b mask
  unfolding diff_mask_of first_of refused_or
  diff-short f d h = rw (past-both f d, lt-ltb _ _ (rw f.limits.indices-length at h))

  pub diff-done : WellFormed s → Based s.w s.h b 0 → length s.indices ≤ length mask → (buffer : List ℕ)
      → buffer ≡ over (mask_of s.palette b.palette s.indices b.indices) mask
      → filled (counted.Count (length s.indices)) buffer ≡ diff_mask_of s b mask
  unfolding diff_mask_of first_of refused_or
  diff-done f d h buffer e = rw (past-both f d, le-ltb _ _ (rw f.limits.indices-length at h), e, f.limits.indices-length)
