-- The baseline's checks and the facts that they stand for. Assumes nothing.
use mathlib.Core.Path.{◌≡◌, refl, sym, ◌∙◌}
use mathlib.Core.Bool.{Bool, true, false, not, cond}
use mathlib.Core.List.{List, [], ◌∷◌, map}
use Prim.Native.Nat.{ℕ, ◌*◌, ◌≤◌}
use native.Mathlib.Omega.{arith}
use borrow.Author.Tests.{le-ltb, ltb-false, eq-eqb, eqb-true, not-false}
use lib.Dec.{ltb, eqb}
use lib.ListN.{length}
use Rattle.base.specs.Checks.{◌when◌, first_of}
use Rattle.base.proofs.First.{first_past, first-here}
use Rattle.base.specs.Lists.{some}
use Rattle.base.proofs.Scan.{or_left, or_right}
use Rattle.sheet.specs.Sheet.{stray}
use Rattle.sheet_diff.specs.Mask.{Baseline, baseline_checks, Based}
use Rattle.sheet.proofs.Judging.{yes, one_number}

-- what number 1 asks of a baseline under a sheet of w by h
pub record Sized (w h : ℕ) (b : Baseline) : Type 0 where
  pub w-small : b.w ≤ 1024
  pub h-small : b.h ≤ 1024
  pub k-small : b.k ≤ 255
  pub palette-length : length b.palette ≡ 765
  pub indices-length : length b.indices ≡ b.w * b.h
  pub same_w : b.w ≡ w
  pub same-h : b.h ≡ h

module _ (w h : ℕ) (b : Baseline) where
  tests : List Bool
  tests =
      ltb 1024 b.w
      ∷ ltb 1024 b.h
      ∷ ltb 255 b.k
      ∷ not (eqb (length b.palette) 765)
      ∷ not (eqb (length b.indices) (b.w * b.h))
      ∷ not (eqb b.w w)
      ∷ not (eqb b.h h)
      ∷ []

  sized_of : some yes tests ≡ false → Sized w h b
  unfolding some tests
  sized_of e =
      let e2 = or_right (ltb 1024 b.w) _ e in
      let e3 = or_right (ltb 1024 b.h) _ e2 in
      let e4 = or_right (ltb 255 b.k) _ e3 in
      let e5 = or_right (not (eqb (length b.palette) 765)) _ e4 in
      let e6 = or_right (not (eqb (length b.indices) (b.w * b.h))) _ e5 in
      let e7 = or_right (not (eqb b.w w)) _ e6 in
      record {
        w-small = ltb-false 1024 b.w (or_left _ _ e);
        h-small = ltb-false 1024 b.h (or_left _ _ e2);
        k-small = ltb-false 255 b.k (or_left _ _ e3);
        palette-length = eqb-true _ _ (not-false _ (or_left _ _ e4));
        indices-length = eqb-true _ _ (not-false _ (or_left _ _ e5));
        same_w = eqb-true _ _ (not-false _ (or_left _ _ e6));
        same-h = eqb-true _ _ (not-false _ (or_left _ _ e7));
      }

  none-applies : Sized w h b → some yes tests ≡ false
  unfolding some tests
  none-applies f =
      rw (le-ltb _ _ f.w-small, le-ltb _ _ f.h-small, le-ltb _ _ f.k-small, eq-eqb _ _ f.palette-length, eq-eqb _ _ f.indices-length, eq-eqb _ _ f.same_w, eq-eqb _ _ f.same-h)

  pub based-bad : (Sized w h b → ⊥) → Based w h b 1
  unfolding baseline_checks tests
  based-bad n = record { value = first-here (map (λ b. 1 when b) tests) _ 1 (sym (one_number 0 tests ∙ applies (some yes tests) sized_of)) no; fine = λ e. absurd (no e) }
    where
      applies : (t : Bool) → (t ≡ false → Sized w h b) → ◌≡◌ {A = ℕ} (cond t 1 0) 1
      applies true f = refl
      applies false f = absurd (n (f refl))

      no : ◌≡◌ {A = ℕ} 1 0 → ⊥
      no e = omega arith

  past-sizes : Sized w h b → first_of (baseline_checks w h b) ≡ first_of (2 when some (stray b.k) b.indices ∷ [])
  unfolding baseline_checks tests
  past-sizes f = first_past (map (λ b. 1 when b) tests) (2 when some (stray b.k) b.indices ∷ []) (one_number 0 tests ∙ rw (none-applies f))

  pub based-stray : Sized w h b → some (stray b.k) b.indices ≡ true → Based w h b 2
  unfolding first_of
  based-stray f e = record { value = sym (past-sizes f ∙ rw e); fine = λ e. absurd (no e) }
    where
      no : ◌≡◌ {A = ℕ} 2 0 → ⊥
      no e = omega arith

  pub based-fine : Sized w h b → some (stray b.k) b.indices ≡ false → Based w h b 0
  unfolding first_of
  based-fine f e =
      record {
        value = sym (past-sizes f ∙ rw e);
        fine = λ _. record { k-small = f.k-small; palette-length = f.palette-length; indices-length = f.indices-length ∙ cc (f.same_w, f.same-h); in-range = e };
      }
