-- An index is known by the number of its 16 bits, and a reading by the numbers of its indices. Assumes nothing.
use mathlib.Core.Path.{◌≡◌, sym, ap, ◌∙◌}
use mathlib.Core.List.{List}
use Prim.Native.Nat.{ℕ, ◌^◌, ◌<◌}
use native.Mathlib.Omega.{arith}
use lib.IntN.{ℤ, pos}
use lib.ListN.{length, get_or}
use lib.Seq.{ext_get_or}
use lib.Signed.{mag}
use mir.Syntax.{w16}
use mir.Val.{to_z, of_z, hbits, SFits}
use mir.Facts.{to_z-of_z, Fits-of_z}
use Rattle.tile_least.specs.Least.{Digit}

-- what was read from a slice, and its bits
pub digit-is : {z v : ℤ} {r : ℕ} → mag z < 2 ^ hbits w16 → r ≡ of_z w16 (to_z w16 (of_z w16 z)) → z ≡ v → Digit v r
digit-is {z} h e q =
    let f : SFits w16 z = record { sfits = h } in
    let b = rw (to_z-of_z f) at e in
    rw (← q) (record { is = b; small = rw b (Fits-of_z f).fits; fits = f })

same_bits : {a b : ℤ} → SFits w16 a → SFits w16 b → of_z w16 a ≡ of_z w16 b → a ≡ b
same_bits f g e = sym (to_z-of_z f) ∙ ap (to_z w16) e ∙ to_z-of_z g

pub digit-same : {a b : ℤ} {r : ℕ} → Digit a r → Digit b r → a ≡ b
digit-same d e = same_bits d.fits e.fits (sym d.is ∙ e.is)

module _ (l m : List ℤ) (e : length l ≡ length m) where
  pub same_digits : ((p : ℕ) → p < length l → SFits w16 (get_or l p (pos 0))) → ((p : ℕ) → p < length m → SFits w16 (get_or m p (pos 0)))
      → ((p : ℕ) → p < length l → of_z w16 (get_or l p (pos 0)) ≡ of_z w16 (get_or m p (pos 0)))
      → l ≡ m
  same_digits f g d = ext_get_or (pos 0) l m e (λ p h. same_bits (f p h) (g p (omega arith)) (d p h))
