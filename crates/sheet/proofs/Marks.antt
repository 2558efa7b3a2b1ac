-- The lock marks lent with a sheet: their check among the sheet's. Assumes nothing.
use mathlib.Core.Path.{◌≡◌, sym, ap, ◌∙◌}
use mathlib.Core.Bool.{Bool}
use mathlib.Core.List.{List, [], ◌++◌}
use Prim.Native.Nat.{ℕ}
use native.Mathlib.Omega.{arith}
use borrow.Author.Tests.{eq-eqb, ne_eqb}
use lib.ListN.{length}
use Rattle.base.specs.Checks.{Check, or_else, first_of}
use Rattle.base.proofs.First.{no_zero, first-append, first_past}
use Rattle.sheet.specs.Sheet.{Sheet}
use Rattle.sheet.specs.Checks.{limit_checks, mark_checks, index_checks, lab_checks, sheet_checks, Judged, MarkedJudged}
use Rattle.sheet.proofs.Judging.{limits-one}

-- ---- number 1
pub marks-none : (locks : List Bool) → length locks ≡ 255 → first_of (mark_checks locks) ≡ 0
unfolding mark_checks first_of
marks-none locks e = rw (eq-eqb _ _ e)

pub marks-one : (locks : List Bool) → (length locks ≡ 255 → ⊥) → first_of (mark_checks locks) ≡ 1
unfolding mark_checks first_of
marks-one locks h = rw (ne_eqb _ _ h)

-- ---- among 1 to 3: what else is held to number 1 may be tested first, since the sheet's own limits have that number, too
module _ (s : Sheet) (locks : List Bool) where
  rest : List Check
  rest = index_checks s ++ lab_checks s

  marks-refused : (length locks ≡ 255 → ⊥) → first_of (sheet_checks (mark_checks locks) s) ≡ 1
  unfolding sheet_checks rest
  marks-refused h =
      first-append (limit_checks s) (mark_checks locks ++ rest)
      ∙ ap (or_else (first_of (limit_checks s))) (first-append (mark_checks locks) rest ∙ ap (λ (n : ℕ). or_else n (first_of rest)) (marks-one locks h))
      ∙ limits-one s

  marks-passed : length locks ≡ 255 → first_of (sheet_checks (mark_checks locks) s) ≡ first_of (sheet_checks [] s)
  unfolding sheet_checks rest
  marks-passed e =
      first-append (limit_checks s) (mark_checks locks ++ rest)
      ∙ ap (or_else (first_of (limit_checks s))) (first_past (mark_checks locks) rest (marks-none locks e))
      ∙ sym (first-append (limit_checks s) rest)

  pub marked-short : (length locks ≡ 255 → ⊥) → MarkedJudged s locks 1
  marked-short h = record { value = sym (marks-refused h); fine = λ e. absurd (no_zero (omega arith) e) }

  pub marked-sheet : length locks ≡ 255 → (n : ℕ) → Judged s n → MarkedJudged s locks n
  marked-sheet e n j = record { value = j.value ∙ sym (marks-passed e); fine = λ z. record { formed = j.fine z; marks = e } }

  -- ---- a call's further checks, `ds`, after 1 to 3
  pub past-marked : (n : ℕ) → MarkedJudged s locks n → n ≡ 0 → (ds : List Check) → first_of (sheet_checks (mark_checks locks) s ++ ds) ≡ first_of ds
  past-marked n j z ds = first_past (sheet_checks (mark_checks locks) s) ds (sym j.value ∙ z)
