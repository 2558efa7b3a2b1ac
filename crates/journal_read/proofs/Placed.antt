-- A number that was read and the change that it is: the same place, the same old and new, and on or off the sheet by its place. Assumes nothing.
use mathlib.Core.Path.{◌≡◌, refl, sym, ap}
use mathlib.Core.Bool.{Bool, true, false, ◌||◌}
use mathlib.Core.List.{List}
use Prim.Native.Nat.{ℕ, zero, suc, ◌+◌, ◌*◌, ◌/◌, ◌%◌, ◌^◌, ◌<◌}
use native.Mathlib.Nat.{mul_comm, mod-lt, div-add-mod', zero-mul, le-div_iff_mul-le, div-lt_iff_lt-mul}
use native.Mathlib.Omega.{arith}
use borrow.Author.Tests.{le-leb, lt-leb, leb-true, leb-false}
use lib.Dec.{leb}
use lib.IntN.{ℤ}
use mir.Syntax.{w16}
use mir.Val.{to_z}
use Rattle.base.specs.declared.Form.{Form}
use Rattle.base.specs.declared.Form.TheVariants.{Coordinates, Places}
use Rattle.edit.specs.Change.{unpacked, place, outside}
use Rattle.edit.specs.Checks.{misdirected}
use Rattle.edit_pixels.specs.Inside.{bare}
use Rattle.journal_record.specs.Bytes.{le_at}
use Rattle.journal_record.specs.Record.{change_in}
use Rattle.journal_read.specs.Number.{change_of, row_width}

module _ (w : ℕ) (c : ℕ) where
  pub place_of : (f : Form) → place w (change_of f w c) ≡ place (row_width f w) (unpacked c)
  unfolding change_of place
  place_of Coordinates = refl
  place_of Places = div-add-mod' _ w

  pub old-of : (f : Form) → (change_of f w c).old ≡ (unpacked c).old
  unfolding change_of
  old-of Coordinates = refl
  old-of Places = refl

  pub new-of : (f : Form) → (change_of f w c).new ≡ (unpacked c).new
  unfolding change_of
  new-of Coordinates = refl
  new-of Places = refl

-- a place is off a sheet of w by h where it is not one of its w * h
below : (w h p : ℕ) → leb h (p / suc w) ≡ leb (suc w * h) p
below w h p = by (leb h (p / suc w)) refl
  where
    some : 0 < suc w
    some = omega arith

    by : (b : Bool) → leb h (p / suc w) ≡ b → b ≡ leb (suc w * h) p
    by true e = sym (le-leb (suc w * h) p (rw mul_comm ((le-div_iff_mul-le some).0 (leb-true h (p / suc w) e))))
    by false e = sym (lt-leb (suc w * h) p (rw mul_comm ((div-lt_iff_lt-mul some).0 (leb-false h (p / suc w) e))))

off-place : (w h p : ℕ) → leb w (p % w) || leb h (p / w) ≡ leb (w * h) p
off-place zero h p = rw (zero-mul h, le-leb 0 (p % 0) (omega arith), le-leb 0 p (omega arith))
off-place (suc w) h p = rw (lt-leb (suc w) (p % suc w) (mod-lt p (omega arith))) (below w h p)

pub off_of : (w h c : ℕ) → outside w h (change_of Places w c) ≡ leb (w * h) (place (2 ^ 16) (unpacked c))
unfolding outside change_of
off_of w h c = off-place w h (place (2 ^ 16) (unpacked c))

-- ---- on the sheet it is misdirected or not by its place, its old and its new
pub misdirected-of : (f : Form) (w h k i : ℕ) (indices : List ℤ) (c : ℕ) → misdirected (bare w h k indices) i (change_of f w c) ≡ misdirected (bare (row_width f w) h k indices) i (unpacked c)
unfolding misdirected
misdirected-of f w h k i indices c = rw (place_of w c f, old-of w c f, new-of w c f)

-- ---- what is read: a place of three bytes, an old and a new
module _ (bytes : List ℕ) (at p old new : ℕ) (p-is : p ≡ le_at 3 bytes at) (old-is : old ≡ le_at 2 bytes (at + 3)) (New-is : new ≡ le_at 2 bytes (at + 5))
    (p-fits : p < 2 ^ 24) (old-fits : old < 2 ^ 16) (new-fits : new < 2 ^ 16) where
  abbrev number : ℕ
  number = p + 2 ^ 32 * old + 2 ^ 48 * new

  the-place : place (2 ^ 16) (unpacked number) ≡ p
  unfolding place unpacked
  the-place = omega arith

  the-old : (unpacked number).old ≡ to_z w16 old
  unfolding unpacked
  the-old = let e : number / 2 ^ 32 % 2 ^ 16 ≡ old = omega arith in ap (to_z w16) e

  the-new : (unpacked number).new ≡ to_z w16 new
  unfolding unpacked
  the-new = let e : number / 2 ^ 48 % 2 ^ 16 ≡ new = omega arith in ap (to_z w16) e

  pub placed-is : (w : ℕ) → change_of Places w number ≡ change_in Places w bytes at
  unfolding change_of change_in
  placed-is w = rw (the-place, the-old, the-new, ← p-is, ← old-is, ← New-is)
