-- What a check that did not apply shows. Assumes nothing.
use mathlib.Core.Path.{◌≡◌}
use mathlib.Core.Bool.{false}
use Prim.Native.Nat.{ℕ, ◌≤◌}
use borrow.Author.Tests.{ltb-false}
use lib.Dec.{ltb}
use lib.IntN.{ℤ}
use Rattle.base.proofs.Scan.{or_left, or_right}
use Rattle.base.specs.Ints.{far}
use Rattle.selection.specs.Calls.{too_large, far_away}

-- number 1
pub record Sides (width height : ℕ) : Type 0 where
  pub across : width ≤ 1024
  pub down : height ≤ 1024

pub sides : {width height : ℕ} → too_large width height ≡ false → Sides width height
unfolding too_large
sides {width} {height} e =
    record {
      across = ltb-false 1024 width (or_left (ltb 1024 width) (ltb 1024 height) e);
      down = ltb-false 1024 height (or_right (ltb 1024 width) (ltb 1024 height) e);
    }

-- number 15
pub record Near (x y : ℤ) : Type 0 where
  pub across : far x ≡ false
  pub down : far y ≡ false

pub near : {x y : ℤ} → far_away x y ≡ false → Near x y
unfolding far_away
near {x} {y} e = record { across = or_left (far x) (far y) e; down = or_right (far x) (far y) e }
