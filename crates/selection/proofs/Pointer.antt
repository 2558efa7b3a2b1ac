-- A pointer position: one that is negative is outside, and another is tested by its numbers without a sign. Assumes nothing.
use mathlib.Core.Path.{◌≡◌, refl, sym}
use mathlib.Core.Bool.{true, false}
use native.Mathlib.Omega.{arith}
use borrow.Author.Tests.{ltb-true}
use lib.IntN.{ℤ, pos, negsuc}
use lib.Signed.{lt_z}
use Rattle.base.specs.Ints.{from_zero}
use Rattle.base.proofs.Back.{never}
use Rattle.selection.specs.declared.Selection.{Selection}
use Rattle.selection.specs.Selection.{contains, contains_i}

pub left-of : (s : Selection) (x y : ℤ) → lt_z x (pos 0) ≡ true → contains_i s x y ≡ false
unfolding contains_i
left-of s (pos x) y e = absurd (omega (arith, ltb-true x 0 e))
left-of s (negsuc x) y e = refl

pub above : (s : Selection) (x y : ℤ) → lt_z y (pos 0) ≡ true → contains_i s x y ≡ false
unfolding contains_i
above s x (pos y) e = absurd (omega (arith, ltb-true y 0 e))
above s (pos x) (negsuc y) e = refl
above s (negsuc x) (negsuc y) e = refl

pub unsigned : (s : Selection) (x y : ℤ) → lt_z x (pos 0) ≡ false → lt_z y (pos 0) ≡ false → contains s (from_zero x) (from_zero y) ≡ contains_i s x y
unfolding contains_i from_zero
unsigned s (pos x) (pos y) e f = refl
unsigned s (negsuc x) y e f = never (sym e)
unsigned s (pos x) (negsuc y) e f = never (sym f)
