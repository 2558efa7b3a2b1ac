-- An algebra under tighter limits, whose pushes are given in another form: 28 before all others, 1 for a picture that
-- is too large, 21 for a list that is longer than these limits permit (document 02, E12). That it keeps
-- specs/Laws.antt where the algebra without the limits does: `keeps-within` in proofs/Within.antt. Definitions only.
-- Assumes nothing.
use Rattle.std.specs.Prelude.{◌≡◌, Bool, true, false, cond, ℕ}
use Rattle.base.specs.Numbers.{bad_sheet, journal_full}
use Rattle.base.specs.Checks.{or_else}
use Rattle.history_ledger.specs.Algebra.{Algebra}

-- what a push is given, and the edit that it is; the number where it fits no edit, 0 where it fits one; what is too
-- large, and what too long
pub record Bounds (A : Algebra) : Type 1 where
  pub Args : Type 0
  pub given : Args → A.Edit
  pub misfit : Args → ℕ
  pub large : A.Picture → Bool
  pub longer : Args → Bool

module _ (A : Algebra) (B : Bounds A) where
  open B use {Args, given, misfit, large, longer}

  abbrev pub within : Algebra
  within =
      record {
        Sheet = A.Sheet;
        Picture = A.Picture;
        Edit = Args;
        SheetTyped = A.SheetTyped;
        EditTyped = λ x. A.EditTyped (given x);
        view = A.view;
        places = A.places;
        first_check = λ x. or_else (misfit x) (A.first_check (given x));
        curve_check = A.curve_check;
        sheet_check = λ s. or_else (cond (large (A.view s)) bad_sheet 0) (A.sheet_check s);
        picture_check = λ p. or_else (cond (large p) bad_sheet 0) (A.picture_check p);
        given_check = λ x. A.given_check (given x);
        own_check = λ p x. A.own_check p (given x);
        is_empty = λ x. A.is_empty (given x);
        is_long = longer;
        make = λ s x. A.make s (given x);
        encode = λ s x. A.encode s (given x);
        size = λ x. A.size (given x);
        back = A.back;
        forth = A.forth;
        paint = λ p x. A.paint p (given x);
      }

  -- what the limits owe
  pub record Bounded : Type 0 where
    pub misfit-not-full : (x : Args) → ¬ (misfit x ≡ journal_full)
    pub longer-than-long : (x : Args) → longer x ≡ false → A.is_long (given x) ≡ false
    pub empty-not-longer : (x : Args) → A.is_empty (given x) ≡ true → longer x ≡ false
    pub paint-size : (p : A.Picture) (x : Args) → large (A.paint p (given x)) ≡ large p
