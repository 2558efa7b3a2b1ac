-- An index that is not stray, plus one, is its place in a table of 256. Assumes nothing.
use mathlib.Core.Path.{◌≡◌, sym, ◌∙◌}
use mathlib.Core.Bool.{false}
use Prim.Native.Nat.{zero, suc, ◌<◌}
use native.Mathlib.Omega.{arith}
use borrow.Author.Tests.{leb-false}
use lib.Dec.{T}
use lib.IntN.{ℤ, pos, negsuc, nat_abs, ◌+ℤ◌, +ℤ_one}
use lib.Signed.{non_neg}
use mir.Syntax.{w16, w64}
use mir.Val.{to_z, of_z, SFits, Fits}
use mir.Facts.{to_z-of_z}
use Rattle.base.proofs.Back.{never}
use Rattle.sheet.specs.Sheet.{stray}
use Rattle.sheet_diff.specs.Tables.{slot_of}

pub slot_small : (z : ℤ) → stray 255 z ≡ false → slot_of z < 256
unfolding stray slot_of
slot_small (pos n) e = omega (arith, leb-false 255 n e)
slot_small (negsuc n) e = omega arith

one_more : (z : ℤ) → stray 255 z ≡ false → z +ℤ pos 1 ≡ pos (slot_of z)
unfolding stray slot_of
one_more (pos n) e = +ℤ_one (pos n)
one_more (negsuc zero) e = +ℤ_one (negsuc 0)
one_more (negsuc (suc n)) e = never (sym e)

module _ {z : ℤ} (h : SFits w16 z) (e : stray 255 z ≡ false) where
  -- what `z + 1` and its cast ask, and what they give
  slot_is : to_z w16 (of_z w16 z) +ℤ pos 1 ≡ pos (slot_of z)
  slot_is = rw (to_z-of_z h) (one_more z e)

  pub slot-fits : SFits w16 (to_z w16 (of_z w16 z) +ℤ pos 1)
  slot-fits = rw slot_is (record { sfits = omega (arith, slot_small z e) })

  read : to_z w16 (of_z w16 (to_z w16 (of_z w16 z) +ℤ pos 1)) ≡ pos (slot_of z)
  read = to_z-of_z slot-fits ∙ slot_is

  pub slot-wide : T (non_neg (to_z w16 (of_z w16 (to_z w16 (of_z w16 z) +ℤ pos 1)))) × Fits w64 (nat_abs (to_z w16 (of_z w16 (to_z w16 (of_z w16 z) +ℤ pos 1))))
  slot-wide = rw read (tt, record { fits = omega (arith, slot_small z e) })

  pub slot_at : nat_abs (to_z w16 (of_z w16 (to_z w16 (of_z w16 z) +ℤ pos 1))) ≡ slot_of z
  slot_at = rw read

  pub slot-below : nat_abs (to_z w16 (of_z w16 (to_z w16 (of_z w16 z) +ℤ pos 1))) < 256
  slot-below = rw read (slot_small z e)
