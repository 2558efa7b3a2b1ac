-- The LAB of colours by a curve that gives each colour of bytes a finite one is finite. Assumes nothing.
use mathlib.Core.Path.{◌≡◌, refl}
use mathlib.Core.Bool.{Bool, true, false, not}
use mathlib.Core.List.{List, [], ◌∷◌}
use Prim.Native.Nat.{ℕ, ◌≤◌}
use native.Mathlib.Omega.{arith}
use borrow.Author.Tests.{leb-false}
use lib.Dec.{T, leb}
use lib.Ieee.Scale.{finite}
use Rattle.base.specs.Lists.{some}
use Rattle.base.specs.declared.Rgb.{Rgb}
use Rattle.base.specs.declared.Lab.{Lab}
use Rattle.base.proofs.Nowhere.{or-both, first-not, rest-not, nowhere-append}
use Rattle.color_doubles.specs.Finite.{unfit}
use Rattle.color_lab.specs.Convert.{FiniteLab}
use Rattle.sheet.specs.Document.{labs_by}
use Rattle.sheet.proofs.LabStorage.{numbers_of}

pub finite-numbers : {x : Lab} → FiniteLab x → some unfit (numbers_of x) ≡ false
unfolding some unfit
finite-numbers {x} f = or-both (go (finite x.l) f.l-finite) (or-both (go (finite x.a) f.a-finite) (or-both (go (finite x.b) f.b-finite) refl))
  where
    go : (b : Bool) → T b → not b ≡ false
    go true h = refl
    go false h = absurd h

byte : (b : ℕ) (l : List ℕ) → some (leb 256) (b ∷ l) ≡ false → b ≤ 255
byte b l e = let h = leb-false 256 b (first-not (leb 256) b l e) in omega arith

module _ (curve : Rgb → Lab) (fine : (c : Rgb) → c.r ≤ 255 → c.g ≤ 255 → c.b ≤ 255 → FiniteLab (curve c)) where
  pub labs-fit : (p : List ℕ) → some (leb 256) p ≡ false → some unfit (labs_by curve p) ≡ false
  unfolding labs_by some
  labs-fit [] e = refl
  labs-fit (r ∷ []) e = refl
  labs-fit (r ∷ g ∷ []) e = refl
  labs-fit (r ∷ g ∷ b ∷ p) e =
      let e1 = rest-not (leb 256) r (g ∷ b ∷ p) e in
      let e2 = rest-not (leb 256) g (b ∷ p) e1 in
      let c : Rgb = record { r = r; g = g; b = b } in
      let f = fine c (byte r (g ∷ b ∷ p) e) (byte g (b ∷ p) e1) (byte b p e2) in
      nowhere-append unfit (numbers_of (curve c)) (labs_by curve p) (finite-numbers f) (labs-fit p (rest-not (leb 256) b p e2))
