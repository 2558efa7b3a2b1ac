-- What the openings answer at each of their tests. Assumes nothing.
use mathlib.Core.Path.{◌≡◌, sym, ◌∙◌}
use mathlib.Core.Bool.{Bool, true, false}
use mathlib.Core.List.{List, ◌++◌}
use Prim.Native.Nat.{ℕ}
use native.Mathlib.Omega.{arith}
use lib.Ieee.{Float}
use lib.ListN.{length}
use Rattle.base.specs.Checks.{first_of, refused_or}
use Rattle.base.specs.declared.Answer.TheVariants as answer
use Rattle.base.proofs.First.{first_past, first-here, refused-first, no_zero}
use Rattle.base.specs.Lists.{some}
use Rattle.sheet.specs.Sheet.{Sheet, stray}
use Rattle.sheet.specs.Checks.{limit_checks, mark_checks, index_checks, Limits, Limited, MarkedJudged}
use Rattle.sheet.specs.Document.{cleared_marks, opened, with_lab_of, new_lab, new_made, new_of}
use Rattle.sheet.proofs.Judging.{limited-fine}
use Rattle.sheet.proofs.Marks.{marks-none, marks-one}

module _ (s : Sheet) (locks : List Bool) where
  -- ---- `with_lab`
  pub lab-refused : (n : ℕ) → MarkedJudged s locks n → (n ≡ 0 → ⊥) → opened (answer.Refused n) locks ≡ with_lab_of s locks
  unfolding with_lab_of
  lab-refused n j h = refused-first _ (λ m. opened (answer.Refused m) locks) _ n j.value h

  pub lab-done : (n : ℕ) → MarkedJudged s locks n → n ≡ 0 → (left : List Bool) → left ≡ cleared_marks s.k locks → opened answer.Done left ≡ with_lab_of s locks
  unfolding with_lab_of refused_or
  lab-done n j z left e = rw (sym j.value ∙ z, e)

  -- ---- `new`
  pub new-limits : (n : ℕ) → Limited s n → (n ≡ 0 → ⊥) → new_made (answer.Refused n) s.lab locks ≡ new_of s locks
  unfolding new_of
  new-limits n l h = refused-first _ (λ m. new_made (answer.Refused m) s.lab locks) _ n (first-here (limit_checks s) (mark_checks locks ++ index_checks s) n l.value h) h

  past : Limits s → first_of (limit_checks s ++ (mark_checks locks ++ index_checks s)) ≡ first_of (mark_checks locks ++ index_checks s)
  past l = first_past (limit_checks s) (mark_checks locks ++ index_checks s) (sym (limited-fine s l).value)

  pub new-marks : Limits s → (length locks ≡ 255 → ⊥) → new_made (answer.Refused 1) s.lab locks ≡ new_of s locks
  unfolding new_of
  new-marks l h =
      refused-first _ (λ m. new_made (answer.Refused m) s.lab locks) _ 1
      (first-here (mark_checks locks) (index_checks s) 1 (sym (marks-one locks h)) (no_zero (omega arith)) ∙ sym (past l)) (no_zero (omega arith))

  module _ (l : Limits s) (m : length locks ≡ 255) where
    past-marks : first_of (limit_checks s ++ (mark_checks locks ++ index_checks s)) ≡ first_of (index_checks s)
    past-marks = past l ∙ first_past (mark_checks locks) (index_checks s) (marks-none locks m)

    pub new-stray : some (stray s.k) s.indices ≡ true → new_made (answer.Refused 2) s.lab locks ≡ new_of s locks
    unfolding new_of index_checks first_of refused_or
    new-stray e = rw (past-marks, e)

    pub new-done : some (stray s.k) s.indices ≡ false → (lab : List Float) (left : List Bool) → lab ≡ new_lab s → left ≡ cleared_marks s.k locks
        → new_made answer.Done lab left ≡ new_of s locks
    unfolding new_of index_checks first_of refused_or
    new-done e lab left f g = rw (past-marks, e, f, g)
