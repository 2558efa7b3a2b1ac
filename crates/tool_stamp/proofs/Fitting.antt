-- Rows that a scratch has the places of. Assumes nothing.
use mathlib.Core.Bool.{Bool, true, false, cond}
use Prim.Native.Nat.{ℕ, ◌+◌, ◌-◌, ◌*◌, ◌≤◌, ◌<◌, min, max}
use native.Mathlib.Nat.{add-mul, one-mul, mul-le-mul, mul-le-mul_right}
use native.Mathlib.Omega.{arith}
use Rattle.tool_stamp.specs.declared.Run.{Run}
use lib.IntN.{ℤ}
use lib.Signed.{lt_z}
use Rattle.base.specs.Ints.{from_zero, up_to}
use Rattle.selection.specs.declared.Selection.{Selection}
use Rattle.selection.specs.Region.{Fits}
use Rattle.tool_stamp.specs.Places.{clipped, columns_of, Ends, Row, Rows, AllEnd}

module _ {w y places : ℕ} (r : Row w y places) where
  -- the row's first place
  pub row-start : y * w ≤ 1048576
  row-start = let l = r.low in let k : y ≤ 1024 = omega arith in mul-le-mul k r.narrow

  -- a run in it
  pub row-run : (x : Run) → Ends x w → y * w + x.start + x.count ≤ places
  unfolding Ends
  row-run x e = let b = r.below in omega (arith, add-mul y 1 w, one-mul w)

  pub run-start : (x : Run) → Ends x w → y * w + x.start ≤ 2097152
  unfolding Ends
  run-start x e = let n = r.narrow in omega (arith, row-start)

pub row-of : {w places : ℕ} {y : Run} → Rows w y places → (j : ℕ) → j < y.count → Row w (y.start + j) places
row-of {w} {places} {y} r j h =
    let b = r.below in
    let t = r.bottom in
    let k : y.start + j + 1 ≤ y.start + y.count = omega arith in
    record { narrow = r.narrow; low = omega arith; below = omega (arith, mul-le-mul_right w k) }

-- ---- what is clipped to a region is inside
at_most : (a b from end : ℕ) → min (max a from) end + (min b end - min (max a from) end) ≤ end
at_most a b from end = let s = min (max a from) end in let t = min b end in least s t (omega arith) (omega arith)
  where
    least : (s t : ℕ) → s ≤ end → t ≤ end → s + (t - s) ≤ end
    least s t h k = omega arith

pub clipped-ends : (a b : ℤ) (from end w : ℕ) → end ≤ w → Ends (clipped a b from end) w
unfolding Ends clipped
clipped-ends a b from end w h = omega (arith, at_most (from_zero a) (up_to b) from end)

pub columns-end : (a b : ℤ) (from end w : ℕ) → end ≤ w → AllEnd (columns_of a b from end) w
unfolding columns_of Ends
columns-end a b from end w h = record { all = clipped-ends a b from end w h; left = clipped-ends a a from end w h; right = go (lt_z a b) }
  where
    go : (t : Bool) → Ends (cond t (clipped b b from end) (record { start = end; count = 0 })) w
    go true = clipped-ends b b from end w h
    go false = omega arith

pub clipped-rows : (a b : ℤ) (w pixels : ℕ) (region : Selection) → Fits w pixels region → Rows w (clipped a b region.y (region.y + region.h)) pixels
unfolding clipped
clipped-rows a b w pixels region f =
    let k = at_most (from_zero a) (up_to b) region.y (region.y + region.h) in
    let c = f.below in
    let d = f.bottom in
    record { narrow = f.width; bottom = omega (arith, k); below = omega (arith, mul-le-mul_right w k) }
