-- Places of a sheet in rows, and the index at one. Assumes nothing.
use mathlib.Core.Path.{◌≡◌, refl}
use mathlib.Core.Bool.{Bool, true, false, cond, and-false}
use mathlib.Core.List.{List}
use Prim.Native.Nat.{ℕ, ◌+◌, ◌*◌, ◌<◌, ◌≤◌}
use native.Mathlib.Nat.{mul-le-mul_right, suc-mul, mul_comm}
use native.Mathlib.Omega.{arith}
use lib.Dec.{T, ltb, ltb→lt}
use lib.IntN.{ℤ, pos, negsuc}
use lib.ListN.{get_or}
use Rattle.base.specs.Ints.{on_axis}
use mathlib.Core.Option.{none, some}
use Rattle.sheet.specs.Document.{index_at}

-- a place of a row below h and a column below w
pub place : {w h y x : ℕ} → y < h → x < w → y * w + x < w * h
place {w} {h} {y} {x} a b = omega (arith, mul-le-mul_right w a, suc-mul y w, mul_comm h w)

-- ---- a coordinate is on its axis exactly where the test says so
on : (n size : ℕ) → on_axis (pos n) size < size → ltb n size ≡ true
unfolding on_axis
on n size h = go (ltb n size) h
  where
    go : (t : Bool) → cond t n size < size → t ≡ true
    go true h = refl
    go false h = absurd (omega arith)

off : (n size : ℕ) → size ≤ on_axis (pos n) size → ltb n size ≡ false
unfolding on_axis
off n size h = go (ltb n size) (ltb→lt n size) h
  where
    go : (t : Bool) → (T t → n < size) → size ≤ cond t n size → t ≡ false
    go true f h = absurd (omega (arith, f tt))
    go false f h = refl

never : (n size : ℕ) → on_axis (negsuc n) size < size → ⊥
unfolding on_axis
never n size h = omega arith

-- ---- the index at a position, by where it falls on the two axes
module _ (w h : ℕ) (l : List ℤ) where
  inside : (x y : ℤ) → on_axis x w < w → on_axis y h < h → some (get_or l (on_axis y h * w + on_axis x w) (pos 0)) ≡ index_at w h l x y
  unfolding on_axis index_at
  inside (pos x) (pos y) a b = rw (on x w a, on y h b)
  inside (pos x) (negsuc y) a b = absurd (never y h b)
  inside (negsuc x) y a b = absurd (never x w a)

  pub off-column : (x y : ℤ) → w ≤ on_axis x w → none ≡ index_at w h l x y
  unfolding index_at
  off-column (pos x) (pos y) a = rw (off x w a)
  off-column (pos x) (negsuc y) a = refl
  off-column (negsuc x) y a = refl

  pub off-row : (x y : ℤ) → h ≤ on_axis y h → none ≡ index_at w h l x y
  unfolding index_at
  off-row (pos x) (pos y) b = rw (off y h b, and-false (ltb x w))
  off-row (pos x) (negsuc y) b = refl
  off-row (negsuc x) y b = refl

  pub index-inside : (x y : ℤ) (column row : ℕ) → column ≡ on_axis x w → row ≡ on_axis y h → column < w → row < h
      → some (get_or l (row * w + column) (pos 0)) ≡ index_at w h l x y
  index-inside x y column row e f a b = rw (e, f) (inside x y (rw e at a) (rw f at b))
