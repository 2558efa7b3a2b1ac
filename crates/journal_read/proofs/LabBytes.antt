-- A double that is read from bytes by way of its bits. Assumes nothing.
use mathlib.Core.Path.{◌≡◌, refl, sym, ◌∙◌}
use mathlib.Core.Bool.{Bool, true, false, cond}
use mathlib.Core.List.{List}
use Prim.Native.Nat.{ℕ}
use lib.Ieee.{Float, nan, inf, fin, binary64, is_nan, nan_bits, of_bits, div}
use lib.Ieee.Bits.{nan_bits_is}
use Rattle.base.proofs.Back.{never}
use Rattle.journal_record.specs.Bytes.{le_at}
use Rattle.journal_record.specs.Record.{double_in}
use Rattle.journal_record.specs.Found.{real_of}
use Rattle.journal_record.specs.declared.Real.TheVariants.{Number, NotANumber}
use Rattle.journal_read.specs.LabRead.{double_of}

nan-only : (x : Float) → is_nan x ≡ true → nan ≡ x
unfolding is_nan
nan-only nan e = refl
nan-only (inf s) e = never e
nan-only (fin s m k) e = never e

pub double-of : (bytes : List ℕ) (at : ℕ) → double_of (real_of bytes at) ≡ double_in bytes at
unfolding double_of real_of double_in
double-of bytes at = go (nan_bits binary64 (le_at 8 bytes at)) refl
  where
    x : Float
    x = of_bits binary64 (le_at 8 bytes at)

    go : (t : Bool) → nan_bits binary64 (le_at 8 bytes at) ≡ t → double_of (cond t NotANumber (Number (double_in bytes at))) ≡ x
    go true e = nan-only x (sym (nan_bits_is binary64 (le_at 8 bytes at)) ∙ e)
    go false e = refl

-- 0 / 0
pub no_number : div binary64 (of_bits binary64 0) (of_bits binary64 0) ≡ nan
unfolding div of_bits
no_number = refl
