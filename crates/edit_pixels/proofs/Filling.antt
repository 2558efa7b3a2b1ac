-- A change with the picture's index as its old: its other parts keep. Assumes nothing.
use mathlib.Core.Path.{◌≡◌}
use mathlib.Core.List.{List}
use Prim.Native.Nat.{ℕ, ◌+◌, ◌*◌, ◌/◌, ◌%◌, ◌^◌, ◌<◌}
use native.Mathlib.Omega.{arith}
use lib.IntN.{ℤ, pos}
use lib.ListN.{get_or}
use lib.Pow.{field, mod-mod-pow}
use lib.Signed.{mag}
use mir.Syntax.{w16}
use mir.Val.{to_z, of_z, hbits}
use mir.ValLaws.{of_z_fits}
use Rattle.base.proofs.Back.{back}
use Rattle.edit.specs.Change.{unpacked, place, filled_in}

-- the parts of a number that is put together
module _ (low old high : ℕ) (h : low < 2 ^ 32) (k : old < 2 ^ 16) where
  part-x : (low + 2 ^ 32 * old + 2 ^ 48 * high) % 2 ^ 16 ≡ low % 2 ^ 16
  part-x = omega arith

  part-y : (low + 2 ^ 32 * old + 2 ^ 48 * high) / 2 ^ 16 % 2 ^ 16 ≡ low / 2 ^ 16
  part-y = omega arith

  part-old : (low + 2 ^ 32 * old + 2 ^ 48 * high) / 2 ^ 32 % 2 ^ 16 ≡ old
  part-old = omega arith

  part-new : (low + 2 ^ 32 * old + 2 ^ 48 * high) / 2 ^ 48 % 2 ^ 16 ≡ high % 2 ^ 16
  part-new = omega arith

module _ (c b : ℕ) (k : b < 2 ^ 16) where
  small : c % 2 ^ 32 < 2 ^ 32
  small = omega arith

  refilled : unpacked (c % 2 ^ 32 + 2 ^ 32 * b + 2 ^ 48 * (c / 2 ^ 48)) ≡ record { x = (unpacked c).x; y = (unpacked c).y; old = to_z w16 b; new = (unpacked c).new }
  unfolding unpacked
  refilled =
      rw (part-x (c % 2 ^ 32) b (c / 2 ^ 48) small k, part-y (c % 2 ^ 32) b (c / 2 ^ 48) small k, part-old (c % 2 ^ 32) b (c / 2 ^ 48) small k, part-new (c % 2 ^ 32) b (c / 2 ^ 48) small k, mod-mod-pow c 16 16, field c 16 16)

-- b are the bits of the index at p, as the code reads it
pub filled_is : (w : ℕ) (l : List ℤ) (c b p : ℕ) → mag (get_or l p (pos 0)) < 2 ^ hbits w16 → p ≡ place w (unpacked c) → b ≡ of_z w16 (to_z w16 (of_z w16 (get_or l p (pos 0))))
    → unpacked (c % 2 ^ 32 + 2 ^ 32 * b + 2 ^ 48 * (c / 2 ^ 48)) ≡ filled_in w l (unpacked c)
unfolding filled_in
filled_is w l c b p h at e =
    let z : ℤ = get_or l p (pos 0) in
    let bits : b ≡ of_z w16 z = rw (back w16 z h) at e in
    rw (refilled c b (rw bits (of_z_fits w16 z (record { sfits = h })).fits), bits, back w16 z h, at)
