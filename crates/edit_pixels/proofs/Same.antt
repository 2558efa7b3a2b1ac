-- `==` of two indices compares their bits: what its outcome says of the numbers. Assumes nothing.
use mathlib.Core.Path.{◌≡◌, sym, ◌∙◌}
use mathlib.Core.Bool.{true, false}
use borrow.Author.Tests.{eq-eqb, ne_eqb}
use lib.IntN.{ℤ}
use mir.Syntax.{w16}
use mir.Val.{of_z, SFits}
use Rattle.base.specs.Ints.{eq_z}
use Rattle.base.proofs.Back.{eq-back}

module _ {a b : ℤ} where
  pub same-true : of_z w16 a ≡ of_z w16 b → SFits w16 a → SFits w16 b → eq_z a b ≡ true
  same-true e h k = sym (eq-back h k) ∙ eq-eqb _ _ e

  pub same-false : (of_z w16 a ≡ of_z w16 b → ⊥) → SFits w16 a → SFits w16 b → eq_z a b ≡ false
  same-false e h k = sym (eq-back h k) ∙ ne_eqb _ _ e
