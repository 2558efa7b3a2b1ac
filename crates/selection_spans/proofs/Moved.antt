-- The corners of a moved selection fit 32 bits. Assumes nothing.
use mathlib.Core.Path.{◌≡◌}
use mathlib.Core.Bool.{false}
use Prim.Native.Nat.{ℕ, ◌<◌}
use native.Mathlib.Omega.{arith}
use lib.IntN.{ℤ, pos, negsuc, ◌+ℤ◌}
use mir.Syntax.{w32}
use mir.Val.{SFits, to_z}
use mir.Facts.{to_z_pos}
use Rattle.base.specs.Ints.{far}
use Rattle.base.proofs.Back.{near-abs}
use Rattle.base.proofs.Sums.{abs-sum, sum_fits}

pub record Corners (start count : ℕ) (d : ℤ) : Type 0 where
  pub start_is : to_z w32 start ≡ pos start
  pub count-is : to_z w32 count ≡ pos count
  pub first : SFits w32 (pos start +ℤ d)
  pub past : SFits w32 (pos start +ℤ d +ℤ pos count)
  pub last : SFits w32 (pos start +ℤ d +ℤ pos count +ℤ negsuc 0)

pub corners : {start count : ℕ} {d : ℤ} → start < 65536 → count < 65536 → far d ≡ false → Corners start count d
corners {start} {count} {d} h k e =
    let a = abs-sum (pos start) d in
    let b = abs-sum (pos start +ℤ d) (pos count) in
    let f = near-abs d e in
    record {
      start_is = to_z_pos w32 (omega arith);
      count-is = to_z_pos w32 (omega arith);
      first = sum_fits (pos start) d (omega arith);
      past = sum_fits (pos start +ℤ d) (pos count) (omega arith);
      last = sum_fits (pos start +ℤ d +ℤ pos count) (negsuc 0) (omega arith);
    }
