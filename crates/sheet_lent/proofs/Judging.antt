-- A lent sheet's checks and the facts that they stand for. Assumes nothing.
use mathlib.Core.Path.{◌≡◌, refl, sym, ◌∙◌}
use mathlib.Core.Bool.{Bool, true, false, not, cond}
use mathlib.Core.List.{List, [], ◌∷◌}
use Prim.Native.Nat.{ℕ, ◌*◌}
use native.Mathlib.Omega.{arith}
use borrow.Author.Tests.{eq-eqb, eqb-true, not-false}
use lib.Dec.{eqb}
use lib.ListN.{length}
use Rattle.base.specs.Checks.{first_of}
use Rattle.base.specs.Lists.{some}
use Rattle.base.proofs.Scan.{or_left, or_right}
use Rattle.base.proofs.First.{no_zero}
use Rattle.sheet.proofs.Judging.{yes, one_number}
use Rattle.sheet_lent.specs.Lent.{Lent, lent_checks, LentFits, LentJudged}

-- all tests have one number
tests : ℕ → ℕ → Lent → List Bool
tests w h x =
    not (eqb x.w w)
    ∷ not (eqb x.h h)
    ∷ not (eqb (length x.holds.palette) 765)
    ∷ not (eqb (length x.holds.lab) 765)
    ∷ not (eqb (length x.holds.indices) (w * h))
    ∷ not (eqb (length x.holds.locks) 255)
    ∷ []

by_tests : (w h : ℕ) (x : Lent) → first_of (lent_checks w h x) ≡ cond (some yes (tests w h x)) 1 0
unfolding lent_checks tests
by_tests w h x = one_number 0 (tests w h x)

fits-of : (w h : ℕ) (x : Lent) → some yes (tests w h x) ≡ false → LentFits w h x
unfolding some tests
fits-of w h x e =
    let e2 = or_right (not (eqb x.w w)) _ e in
    let e3 = or_right (not (eqb x.h h)) _ e2 in
    let e4 = or_right (not (eqb (length x.holds.palette) 765)) _ e3 in
    let e5 = or_right (not (eqb (length x.holds.lab) 765)) _ e4 in
    let e6 = or_right (not (eqb (length x.holds.indices) (w * h))) _ e5 in
    record {
      w-same = eqb-true _ _ (not-false _ (or_left _ _ e));
      h-same = eqb-true _ _ (not-false _ (or_left _ _ e2));
      palette-length = eqb-true _ _ (not-false _ (or_left _ _ e3));
      lab-length = eqb-true _ _ (not-false _ (or_left _ _ e4));
      indices-length = eqb-true _ _ (not-false _ (or_left _ _ e5));
      locks-length = eqb-true _ _ (not-false _ (or_left _ _ e6));
    }

none-applies : (w h : ℕ) (x : Lent) → LentFits w h x → some yes (tests w h x) ≡ false
unfolding some tests
none-applies w h x l =
    rw (
      eq-eqb _ _ l.w-same,
      eq-eqb _ _ l.h-same,
      eq-eqb _ _ l.palette-length,
      eq-eqb _ _ l.lab-length,
      eq-eqb _ _ l.indices-length,
      eq-eqb _ _ l.locks-length,
    )

pub lent-fine : (w h : ℕ) (x : Lent) → LentFits w h x → LentJudged w h x 0
lent-fine w h x l = record { value = sym (rw (by_tests w h x, none-applies w h x l)); fine = λ _. l }

pub lent-bad : (w h : ℕ) (x : Lent) → (LentFits w h x → ⊥) → LentJudged w h x 1
lent-bad w h x un =
    record {
      value = sym (by_tests w h x ∙ applies (some yes (tests w h x)) (fits-of w h x));
      fine = λ e. absurd (no_zero (omega arith) e);
    }
  where
    applies : (b : Bool) → (b ≡ false → LentFits w h x) → ◌≡◌ {A = ℕ} (cond b 1 0) 1
    applies true f = refl
    applies false f = absurd (un (f refl))

pub lent_none : (w h : ℕ) (x : Lent) → first_of (lent_checks w h x) ≡ 0 → LentFits w h x
lent_none w h x e = fits-of w h x (unset (some yes (tests w h x)) (sym (by_tests w h x) ∙ e))
  where
    unset : (b : Bool) → ◌≡◌ {A = ℕ} (cond b 1 0) 0 → b ≡ false
    unset true e = absurd (omega arith)
    unset false e = refl
