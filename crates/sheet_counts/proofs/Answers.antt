-- What `counts` answers at each of its tests. Assumes nothing.
use mathlib.Core.Path.{◌≡◌, subst, ◌∙◌}
use mathlib.Core.List.{List}
use Prim.Native.Nat.{ℕ, ◌+◌, ◌*◌, ◌≤◌, ◌<◌}
use borrow.Author.Tests.{lt-ltb, le-ltb}
use lib.IntN.{negsuc}
use lib.ListN.{length, take, drop}
use lib.Seq.{take_at}
use Rattle.base.specs.Checks.{first_of, refused_or}
use Rattle.base.specs.Answer.{filled}
use Rattle.base.proofs.Told.{alone-other, same-result}
use Rattle.base.specs.declared.Counted.TheVariants as counted
use Rattle.base.specs.Lists.{over}
use Rattle.sheet.specs.Sheet.{Sheet}
use Rattle.sheet.specs.Checks.{WellFormed, Judged}
use Rattle.sheet_counts.specs.Counts.{count_of, counts_of, sum_of, counts_call, Counts}
use Rattle.sheet.proofs.Judging.{past-sheet, refused-sheet}
use Rattle.sheet_counts.proofs.Totals.{counts-length, counts-total}

module _ (s : Sheet) (out : List ℕ) where
  pub counts-refused : (n : ℕ) → Judged s n → (n ≡ 0 → ⊥) → Counts s out (filled (counted.Refused n) out)
  unfolding counts_call
  counts-refused n j h = record { value = refused-sheet s _ (λ m. filled (counted.Refused m) out) _ n j h; total = λ m e. absurd (alone-other e) }

  pub counts-short : WellFormed s → length out < s.k → Counts s out (filled (counted.Refused 16) out)
  unfolding counts_call first_of refused_or
  counts-short f h = record { value = rw (past-sheet s f, lt-ltb _ _ h); total = λ m e. absurd (alone-other e) }

  pub counts-done : WellFormed s → s.k ≤ length out → (buffer : List ℕ) → buffer ≡ over (counts_of s.k s.indices) out
      → Counts s out (filled (counted.Count s.k) buffer)
  unfolding counts_call first_of refused_or over
  counts-done f h buffer e =
      record {
        value = rw (past-sheet s f, le-ltb _ _ h, e);
        total = λ m q.
            subst (λ (i : ℕ). sum_of (take i buffer) + count_of (negsuc 0) s.indices ≡ s.w * s.h) (same-result q) (summed (e));
      }
    where
      summed : buffer ≡ over (counts_of s.k s.indices) out → sum_of (take s.k buffer) + count_of (negsuc 0) s.indices ≡ s.w * s.h
      summed e =
          rw (e, take_at (counts_of s.k s.indices) (drop (length (counts_of s.k s.indices)) out) s.k (counts-length s.k s.indices))
          (counts-total s.k s.indices f.in-range ∙ f.limits.indices-length)
