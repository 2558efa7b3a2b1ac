-- An index one less, above an entry, and one more, from an entry on. Assumes nothing.
use mathlib.Core.Path.{◌≡◌, sym, ap, ◌∙◌}
use mathlib.Core.Bool.{true, false}
use Prim.Native.Nat.{ℕ, zero, suc, ◌^◌, ◌<◌}
use native.Mathlib.Omega.{arith}
use borrow.Author.Tests.{ltb-true, leb-false}
use lib.IntN.{ℤ, pos, negsuc, suc_ℤ, pred_ℤ, ◌-ℤ◌, ◌+ℤ◌, -ℤ_one, +ℤ_one}
use lib.Signed.{mag, lt_z, le_z}
use mir.Syntax.{w16}
use mir.Val.{to_z, of_z, hbits, SFits}
use mir.Facts.{to_z-of_z}
use Rattle.base.proofs.Back.{never, lt_z-back, le_z-back}
use Rattle.sheet.specs.Sheet.{stray}
use Rattle.edit.specs.Storage.{lowered, raised}

-- above some number, one less fits
pred-mag : (a z : ℤ) (m : ℕ) → lt_z a z ≡ true → mag a < m → mag z < m → mag (pred_ℤ z) < m
pred-mag a (pos zero) m t h k = k
pred-mag a (pos (suc n)) m t h k = omega arith
pred-mag (pos b) (negsuc n) m t h k = never t
pred-mag (negsuc b) (negsuc n) m t h k = omega (arith, ltb-true n b t)

-- of an index in range, one more fits
suc-mag : (z : ℤ) → stray 255 z ≡ false → mag (suc_ℤ z) < 32768
unfolding stray
suc-mag (pos n) t = omega (arith, leb-false 255 n t)
suc-mag (negsuc zero) t = omega arith
suc-mag (negsuc (suc n)) t = never (sym t)

module _ {a z : ℤ} (ha : SFits w16 a) (hz : SFits w16 z) where
  -- `z - 1`, where a is below z
  sub_is : to_z w16 (of_z w16 z) -ℤ pos 1 ≡ pred_ℤ z
  sub_is = ap (λ (y : ℤ). y -ℤ pos 1) (to_z-of_z hz) ∙ -ℤ_one z

  module _ (t : lt_z (to_z w16 (of_z w16 a)) (to_z w16 (of_z w16 z)) ≡ true) where
    pub lower-fits : SFits w16 (to_z w16 (of_z w16 z) -ℤ pos 1)
    lower-fits = rw sub_is (record { sfits = pred-mag a z (2 ^ hbits w16) (lt_z-back ha hz t) ha.sfits hz.sfits })

    pub lower-is : (i : ℕ) → a ≡ pos i → to_z w16 (of_z w16 (to_z w16 (of_z w16 z) -ℤ pos 1)) ≡ lowered i z
    unfolding lowered
    lower-is i e = rw (to_z-of_z lower-fits, sub_is, ← e, lt_z-back ha hz t)

  pub lower-not : lt_z (to_z w16 (of_z w16 a)) (to_z w16 (of_z w16 z)) ≡ false → (i : ℕ) → a ≡ pos i → to_z w16 (of_z w16 z) ≡ lowered i z
  unfolding lowered
  lower-not t i e = rw (to_z-of_z hz, ← e, lt_z-back ha hz t)

  -- `z + 1`, where z is in range
  add_is : to_z w16 (of_z w16 z) +ℤ pos 1 ≡ suc_ℤ z
  add_is = ap (λ (y : ℤ). y +ℤ pos 1) (to_z-of_z hz) ∙ +ℤ_one z

  module _ (s : stray 255 z ≡ false) where
    pub raise-fits : SFits w16 (to_z w16 (of_z w16 z) +ℤ pos 1)
    raise-fits = rw add_is (record { sfits = suc-mag z s })

    pub raise-is : le_z (to_z w16 (of_z w16 a)) (to_z w16 (of_z w16 z)) ≡ true → (i : ℕ) → a ≡ pos i → to_z w16 (of_z w16 (to_z w16 (of_z w16 z) +ℤ pos 1)) ≡ raised i z
    unfolding raised
    raise-is t i e = rw (to_z-of_z raise-fits, add_is, ← e, le_z-back ha hz t)

  pub raise-not : le_z (to_z w16 (of_z w16 a)) (to_z w16 (of_z w16 z)) ≡ false → (i : ℕ) → a ≡ pos i → to_z w16 (of_z w16 z) ≡ raised i z
  unfolding raised
  raise-not t i e = rw (to_z-of_z hz, ← e, le_z-back ha hz t)
