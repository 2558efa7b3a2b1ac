-- A row's number beside a coordinate with a sign. Assumes nothing.
use mathlib.Core.Path.{◌≡◌, refl, sym, ap, ◌∙◌}
use mathlib.Core.Bool.{Bool, true, false, ◌||◌}
use Prim.Native.Nat.{ℕ, ◌<◌}
use native.Mathlib.Omega.{arith}
use borrow.Author.Tests.{eq-eqb, ne_eqb, eqb-true, eqb-false}
use lib.Dec.{eqb}
use lib.IntN.{ℤ, pos}
use mir.Syntax.{Width, w32}
use mir.Val.{SFits, to_z, of_z}
use mir.Facts.{to_z-of_z}
use Rattle.base.specs.Ints.{eq_z}
use Rattle.base.proofs.Back.{eq_z-same, same_index}

same_bits : (w : Width) (a b : ℤ) → SFits w a → SFits w b → eqb (of_z w a) (of_z w b) ≡ eq_z a b
same_bits w a b f g = go (eqb (of_z w a) (of_z w b)) refl (eq_z a b) refl
  where
    go : (t : Bool) → eqb (of_z w a) (of_z w b) ≡ t → (u : Bool) → eq_z a b ≡ u → t ≡ u
    go true e true q = refl
    go true e false q = let i : a ≡ b = sym (to_z-of_z f) ∙ ap (to_z w) (eqb-true (of_z w a) (of_z w b) e) ∙ to_z-of_z g in sym (eq_z-same b) ∙ ap (λ z. eq_z z b) (sym i) ∙ q
    go false e true q = absurd (eqb-false (of_z w a) (of_z w b) e (ap (of_z w) (same_index a b q)))
    go false e false q = refl

module _ (y : ℕ) (low : y < 1024) (top bottom : ℤ) (f : SFits w32 top) (g : SFits w32 bottom) where
  is : (z : ℤ) → SFits w32 z → eqb y (of_z w32 z) ≡ eq_z (pos y) z
  is z h = same_bits w32 (pos y) z (record { sfits = omega arith }) h

  pub edge-first : y ≡ of_z w32 top → eqb y (of_z w32 top) ≡ eq_z (pos y) top || eq_z (pos y) bottom
  edge-first e = let t = eq-eqb y (of_z w32 top) e in rw (← is top f, t)

  pub edge-second : (y ≡ of_z w32 top → ⊥) → eqb y (of_z w32 bottom) ≡ eq_z (pos y) top || eq_z (pos y) bottom
  edge-second e = rw (← is top f, ne_eqb y (of_z w32 top) e) (is bottom g)
