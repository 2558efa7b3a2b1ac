-- Checks 1 to 3 and the facts that they stand for. Assumes nothing.
use mathlib.Core.Path.{◌≡◌, refl, sym, ap, ◌∙◌}
use mathlib.Core.Bool.{Bool, true, false, not, cond}
use mathlib.Core.List.{List, [], ◌∷◌, ◌++◌, map}
use Prim.Native.Nat.{ℕ, suc, ◌*◌}
use native.Mathlib.Nat.{mul-le-mul}
use native.Mathlib.Omega.{arith}
use borrow.Author.Tests.{le-ltb, ltb-false, eq-eqb, eqb-true, not-false}
use lib.Dec.{ltb, eqb}
use lib.ListN.{length, take}
use Rattle.base.specs.Checks.{Check, ◌when◌, or_else, first_of, checked}
use Rattle.base.specs.Numbers.{stray_index, unfit_lab}
use Rattle.base.proofs.First.{first_past, first-here, refused-first, past, past-both}
use Rattle.base.specs.Lists.{some}
use Rattle.base.proofs.Scan.{or_left, or_right}
use Rattle.color_doubles.specs.Finite.{unfit}
use Rattle.sheet.specs.Sheet.{Sheet, stray}
use Rattle.sheet.specs.Checks.{limit_checks, index_checks, lab_checks, sheet_checks, Limits, Limited, WellFormed, Judged}

-- ---- number 1: all its tests have one number
abbrev pub yes : Bool → Bool
yes b = b

pub one_number : (n : ℕ) (bs : List Bool) → first_of (map (λ b. suc n when b) bs) ≡ cond (some yes bs) (suc n) 0
unfolding first_of some
one_number n [] = refl
one_number n (true ∷ bs) = refl
one_number n (false ∷ bs) = one_number n bs

tests : Sheet → List Bool
tests s =
    ltb 1024 s.w
    ∷ ltb 1024 s.h
    ∷ ltb 255 s.k
    ∷ not (eqb (length s.palette) 765)
    ∷ not (eqb (length s.lab) 765)
    ∷ not (eqb (length s.indices) (s.w * s.h))
    ∷ []

by_tests : (s : Sheet) → first_of (limit_checks s) ≡ cond (some yes (tests s)) 1 0
unfolding limit_checks tests
by_tests s = one_number 0 (tests s)

limits_of : (s : Sheet) → some yes (tests s) ≡ false → Limits s
unfolding some tests
limits_of s e =
    let e2 = or_right (ltb 1024 s.w) _ e in
    let e3 = or_right (ltb 1024 s.h) _ e2 in
    let e4 = or_right (ltb 255 s.k) _ e3 in
    let e5 = or_right (not (eqb (length s.palette) 765)) _ e4 in
    let e6 = or_right (not (eqb (length s.lab) 765)) _ e5 in
    let w-small = ltb-false 1024 s.w (or_left _ _ e) in
    let h-small = ltb-false 1024 s.h (or_left _ _ e2) in
    record {
      w-small = w-small;
      h-small = h-small;
      k-small = ltb-false 255 s.k (or_left _ _ e3);
      cells = mul-le-mul w-small h-small;
      palette-length = eqb-true _ _ (not-false _ (or_left _ _ e4));
      lab-length = eqb-true _ _ (not-false _ (or_left _ _ e5));
      indices-length = eqb-true _ _ (not-false _ (or_left _ _ e6));
    }

none-applies : (s : Sheet) → Limits s → some yes (tests s) ≡ false
unfolding some tests
none-applies s l =
    rw (le-ltb _ _ l.w-small, le-ltb _ _ l.h-small, le-ltb _ _ l.k-small, eq-eqb _ _ l.palette-length, eq-eqb _ _ l.lab-length, eq-eqb _ _ l.indices-length)

pub limited-fine : (s : Sheet) → Limits s → Limited s 0
limited-fine s l = record { value = sym (rw (by_tests s, none-applies s l)); fine = λ _. l }

pub limited-bad : (s : Sheet) → (Limits s → ⊥) → Limited s 1
limited-bad s h = record { value = sym (by_tests s ∙ applies (some yes (tests s)) (limits_of s)); fine = λ e. absurd (no e) }
  where
    applies : (b : Bool) → (b ≡ false → Limits s) → ◌≡◌ {A = ℕ} (cond b 1 0) 1
    applies true f = refl
    applies false f = absurd (h (f refl))

    no : ◌≡◌ {A = ℕ} 1 0 → ⊥
    no e = omega arith

-- where they are followed by another number 1, the first is 1
pub limits-one : (s : Sheet) → or_else (first_of (limit_checks s)) 1 ≡ 1
limits-one s = ap (λ (n : ℕ). or_else n 1) (by_tests s) ∙ either_way (some yes (tests s))
  where
    either_way : (b : Bool) → or_else (cond b 1 0) 1 ≡ 1
    either_way true = refl
    either_way false = refl

-- ---- 1 to 3 in order
module _ (s : Sheet) where
  -- what 0 means
  pub none-applied : first_of (sheet_checks [] s) ≡ 0 → WellFormed s
  unfolding sheet_checks index_checks lab_checks
  none-applied e =
      let parts = past-both (limit_checks s) (index_checks s ++ lab_checks s) e in
      let index = past (stray_index when some (stray s.k) s.indices) (lab_checks s) (omega arith) parts.right in
      let lab = past (unfit_lab when some unfit (take (3 * s.k) s.lab)) [] (omega arith) index.rest in
      record { limits = limits_of s (unset (some yes (tests s)) (sym (by_tests s) ∙ parts.left)); in-range = index.off; fit = lab.off }
    where
      unset : (b : Bool) → ◌≡◌ {A = ℕ} (cond b 1 0) 0 → b ≡ false
      unset true e = absurd (omega arith)
      unset false e = refl

  pub judged-limits : (n : ℕ) → Limited s n → (n ≡ 0 → ⊥) → Judged s n
  unfolding sheet_checks
  judged-limits n l h = record { value = first-here (limit_checks s) (index_checks s ++ lab_checks s) n l.value h; fine = λ e. absurd (h e) }

  past-limits : Limits s → first_of (sheet_checks [] s) ≡ first_of (index_checks s ++ lab_checks s)
  unfolding sheet_checks
  past-limits l = first_past (limit_checks s) (index_checks s ++ lab_checks s) (sym (limited-fine s l).value)

  pub judged-index : Limits s → some (stray s.k) s.indices ≡ true → Judged s 2
  unfolding index_checks first_of
  judged-index l e = record { value = sym (past-limits l ∙ rw e); fine = λ e. absurd (no e) }
    where
      no : ◌≡◌ {A = ℕ} 2 0 → ⊥
      no e = omega arith

  pub judged-lab : Limits s → some (stray s.k) s.indices ≡ false → some unfit (take (3 * s.k) s.lab) ≡ true → Judged s 3
  unfolding index_checks lab_checks first_of
  judged-lab l i e = record { value = sym (past-limits l ∙ rw (i, e)); fine = λ e. absurd (no e) }
    where
      no : ◌≡◌ {A = ℕ} 3 0 → ⊥
      no e = omega arith

  pub judged-fine : WellFormed s → Judged s 0
  unfolding index_checks lab_checks first_of
  judged-fine f = record { value = sym (past-limits f.limits ∙ rw (f.in-range, f.fit)); fine = λ _. f }

  -- ---- a call's further checks, `ds`, after 1 to 3
  pub past-sheet : WellFormed s → (ds : List Check) → first_of (sheet_checks [] s ++ ds) ≡ first_of ds
  past-sheet f ds = first_past (sheet_checks [] s) ds (sym (judged-fine f).value)

  pub refused-sheet : {R : Type 0} (ds : List Check) (refused : ℕ → R) (result : R) (n : ℕ) → Judged s n → (n ≡ 0 → ⊥)
      → refused n ≡ checked (sheet_checks [] s ++ ds) refused result
  refused-sheet ds refused result n j h = refused-first (sheet_checks [] s ++ ds) refused result n (first-here (sheet_checks [] s) ds n j.value h) h
