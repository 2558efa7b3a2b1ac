-- What `other_no` and `removal_no` answer, by what their tests find. Assumes nothing.
use mathlib.Core.Path.{◌≡◌}
use mathlib.Core.Bool.{Bool, true, false}
use mathlib.Core.List.{List, []}
use Prim.Native.Nat.{ℕ, ◌<◌, ◌≤◌}
use native.Mathlib.Omega.{arith}
use borrow.Author.Tests.{le-leb, lt-leb, le-ltb, lt-ltb}
use Rattle.base.specs.Checks.{Check, first_of}
use Rattle.base.proofs.First.{no_zero, first-here}
use Rattle.sheet.specs.Sheet.{Sheet}
use Rattle.sheet.specs.Checks.{mark_checks, sheet_checks, WellFormed, Judged, MarkedJudged}
use Rattle.sheet.proofs.Judging.{past-sheet}
use Rattle.sheet.proofs.Marks.{past-marked}
use Rattle.edit.specs.Locks.{lock_at}
use Rattle.palette_model.specs.Nearest.{other_checks, removal_checks, Removable}

-- a number is a refusal
refused : {checks : List Check} {s : Sheet} {i : ℕ} (n : ℕ) → 0 < n → n ≡ first_of checks → Removable checks s i n
refused n h e = record { value = e; fine = λ z. absurd (no_zero h z) }

-- ---- 1 to 3, 7, 9
module _ (s : Sheet) (i : ℕ) where
  pub other-refused : (n : ℕ) → Judged s n → (n ≡ 0 → ⊥) → Removable (other_checks s i) s i n
  unfolding other_checks
  other-refused n j h = record { value = first-here (sheet_checks [] s) _ n j.value h; fine = λ e. absurd (h e) }

  pub other_none : WellFormed s → s.k ≤ i → Removable (other_checks s i) s i 7
  unfolding other_checks first_of
  other_none f h = refused 7 (omega arith) (rw (past-sheet s f, le-leb _ _ h))

  pub other_last : WellFormed s → i < s.k → s.k < 2 → Removable (other_checks s i) s i 9
  unfolding other_checks first_of
  other_last f h l = refused 9 (omega arith) (rw (past-sheet s f, lt-leb _ _ h, lt-ltb _ _ l))

  pub other-fine : WellFormed s → i < s.k → 2 ≤ s.k → Removable (other_checks s i) s i 0
  unfolding other_checks first_of
  other-fine f h l = record { value = rw (past-sheet s f, lt-leb _ _ h, le-ltb _ _ l); fine = λ _. record { formed = f; entry = h; more = l } }

-- ---- 1 to 3 with the marks, 7, 24, 9
module _ (s : Sheet) (locks : List Bool) (i n : ℕ) (j : MarkedJudged s locks n) where
  pub removal-refused : (n ≡ 0 → ⊥) → Removable (removal_checks s locks i) s i n
  unfolding removal_checks
  removal-refused h = record { value = first-here (sheet_checks (mark_checks locks) s) _ n j.value h; fine = λ e. absurd (h e) }

  module _ (z : n ≡ 0) where
    pub removal-none : s.k ≤ i → Removable (removal_checks s locks i) s i 7
    unfolding removal_checks first_of
    removal-none h = refused 7 (omega arith) (rw (past-marked s locks n j z, le-leb _ _ h))

    pub removal-locked : i < s.k → lock_at locks i ≡ true → Removable (removal_checks s locks i) s i 24
    unfolding removal_checks first_of
    removal-locked h e = refused 24 (omega arith) (rw (past-marked s locks n j z, lt-leb _ _ h, e))

    pub removal-last : i < s.k → lock_at locks i ≡ false → s.k < 2 → Removable (removal_checks s locks i) s i 9
    unfolding removal_checks first_of
    removal-last h e l = refused 9 (omega arith) (rw (past-marked s locks n j z, lt-leb _ _ h, e, lt-ltb _ _ l))

    pub removal-fine : i < s.k → lock_at locks i ≡ false → 2 ≤ s.k → Removable (removal_checks s locks i) s i 0
    unfolding removal_checks first_of
    removal-fine h e l =
        record { value = rw (past-marked s locks n j z, lt-leb _ _ h, e, le-ltb _ _ l); fine = λ _. record { formed = (j.fine z).formed; entry = h; more = l } }
