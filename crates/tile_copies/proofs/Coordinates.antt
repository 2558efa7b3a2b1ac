-- A place of the sheet is a cell and a pixel of it, and a class is a place of the first cell. Assumes nothing.
use Prim.Native.Nat.{ℕ, ◌+◌, ◌*◌, ◌/◌, ◌%◌, ◌<◌}
use mathlib.Core.Path.{◌≡◌, refl, sym, ap, ◌∙◌}
use mathlib.Core.Bool.{Bool, false}
use mathlib.Core.List.{List}
use native.Mathlib.Omega.{arith}
use native.Mathlib.Nat.{mod-lt, div-add-mod', div-lt_iff_lt-mul, mul_comm}
use lib.Arith.{digits_lt, digits_div, digits_mod}
use lib.IntN.{ℤ}
use Rattle.tile_cells.specs.Tile.{Flip, turned, flip_at}
use Rattle.tile_cells.specs.Cells.{Tiled, cell_count, order_of, first_cell, code_of}
use Rattle.tile_cells.proofs.Corners.{across, down}
use Rattle.tile_cells.proofs.Firsts.{first-le, first-flip}
use Rattle.tile_cells.proofs.Flipping.{turned-below, turned-twice, joint-self}
use Rattle.tile_marks.specs.Cell.{cell_at, column_in, row_in}
use Rattle.tile_marks.specs.Marks.{cell_of_place, class_by}

plain : (t i : ℕ) → turned false t i ≡ i
unfolding turned
plain t i = refl

-- a flip back
pub turned-back : (f : Bool) {t i : ℕ} → i < t → turned f t (turned f t i) ≡ i
turned-back f {t} {i} h = turned-twice f f h ∙ rw (joint-self f) (plain t i)

-- the class of the pixel at p: its place in the first cell
unfoldable pub class_of : ℕ → ℕ → List ℤ → ℕ → ℕ
class_of w t l p = class_by w t (code_of w t l (cell_of_place w t p)) p

module _ (w h t : ℕ) (l : List ℤ) (d : Tiled w h t l) (wide : 0 < w / t) where
  -- ---- the pixel (i, j) of cell o
  module _ (o i j : ℕ) (below : o < cell_count w h t) (hi : i < t) (hj : j < t) where
    pub column-div : column_in w t o i / t ≡ o % (w / t)
    unfolding column_in
    column-div = digits_div (o % (w / t)) hi

    pub column-mod : column_in w t o i % t ≡ i
    unfolding column_in
    column-mod = digits_mod (o % (w / t)) hi

    pub row-div : row_in w t o j / t ≡ o / (w / t)
    unfolding row_in
    row-div = digits_div (o / (w / t)) hj

    pub row-mod : row_in w t o j % t ≡ j
    unfolding row_in
    row-mod = digits_mod (o / (w / t)) hj

    pub column-on : column_in w t o i < w
    unfolding column_in
    column-on = rw (across d) at (digits_lt (mod-lt o wide) hi)

    pub row_on : row_in w t o j < h
    unfolding row_in cell_count
    row_on = rw (down d) at (digits_lt ((div-lt_iff_lt-mul wide).1 below) hj)

    pub cell-back : cell_at w t (column_in w t o i) (row_in w t o j) ≡ o
    unfolding cell_at
    cell-back = rw (column-div, row-div) (div-add-mod' o (w / t))

  -- ---- the cell of (x, y)
  module _ (x y : ℕ) (hx : x < w) (hy : y < h) where
    x-cell : x / t < w / t
    x-cell = (div-lt_iff_lt-mul d.side).1 (rw (across d) hx)

    y-cell : y / t < h / t
    y-cell = (div-lt_iff_lt-mul d.side).1 (rw (down d) hy)

    pub cell_below : cell_at w t x y < cell_count w h t
    unfolding cell_at cell_count
    cell_below = digits_lt y-cell x-cell

    pub column-of : column_in w t (cell_at w t x y) (x % t) ≡ x
    unfolding cell_at column_in
    column-of = rw (digits_mod (y / t) x-cell) (div-add-mod' x t)

    pub row-of : row_in w t (cell_at w t x y) (y % t) ≡ y
    unfolding cell_at row_in
    row-of = rw (digits_div (y / t) x-cell) (div-add-mod' y t)

  pub place-cell : (p : ℕ) → 0 < w → p < w * h → cell_of_place w t p < cell_count w h t
  place-cell p z b = cell_below (p % w) (p / w) (mod-lt p z) ((div-lt_iff_lt-mul z).1 (rw (mul_comm w h) at b))

  -- ---- the class of (x, y)
  -- the pixel of the tile, and the cell that is first
  abbrev pub flip_of : ℕ → Flip
  flip_of c = flip_at (order_of w t l c (first_cell w t l c))

  abbrev pub tileX : ℕ → ℕ → ℕ
  tileX c x = turned (flip_of c).h t (x % t)

  abbrev pub tileY : ℕ → ℕ → ℕ
  tileY c y = turned (flip_of c).v t (y % t)

  code-first : (c : ℕ) → code_of w t l c / 4 ≡ first_cell w t l c
  unfolding code_of
  code-first c = omega (arith, first-flip w t l c)

  code-order : (c : ℕ) → code_of w t l c % 4 ≡ order_of w t l c (first_cell w t l c)
  unfolding code_of
  code-order c = omega (arith, first-flip w t l c)

  abbrev pub class_in : ℕ → ℕ → ℕ → ℕ
  class_in f i j = row_in w t f j * w + column_in w t f i

  pub class-is : (p : ℕ) → let c = cell_of_place w t p in class_of w t l p ≡ class_in (first_cell w t l c) (tileX c (p % w)) (tileY c (p / w))
  unfolding class_of class_by
  class-is p = rw (code-first (cell_of_place w t p), code-order (cell_of_place w t p))

  pub class-within : (f i j : ℕ) → f < cell_count w h t → i < t → j < t → class_in f i j < w * h
  class-within f i j b hi hj = rw (mul_comm w h) (digits_lt (row_on f i j b hi hj) (column-on f i j b hi hj))

  -- one class, one first cell and one pixel
  pub record Same (f i j g k m : ℕ) : Type 0 where
    pub first : f ≡ g
    pub x : i ≡ k
    pub y : j ≡ m

  pub class_same : (f i j g k m : ℕ) → f < cell_count w h t → i < t → j < t → g < cell_count w h t → k < t → m < t → class_in f i j ≡ class_in g k m → Same f i j g k m
  class_same f i j g k m bf hi hj bg hk hm e =
      let cx : column_in w t f i ≡ column_in w t g k = sym (digits_mod (row_in w t f j) (column-on f i j bf hi hj)) ∙ ap (λ (n : ℕ). n % w) e ∙ digits_mod (row_in w t g m) (column-on g k m bg hk hm) in
      let cy : row_in w t f j ≡ row_in w t g m = sym (digits_div (row_in w t f j) (column-on f i j bf hi hj)) ∙ ap (λ (n : ℕ). n / w) e ∙ digits_div (row_in w t g m) (column-on g k m bg hk hm) in
      record {
        first = sym (cell-back f i j bf hi hj) ∙ rw (cx, cy) (cell-back g k m bg hk hm);
        x = sym (column-mod f i j bf hi hj) ∙ ap (λ (n : ℕ). n % t) cx ∙ column-mod g k m bg hk hm;
        y = sym (row-mod f i j bf hi hj) ∙ ap (λ (n : ℕ). n % t) cy ∙ row-mod g k m bg hk hm;
      }

  pub class-in : (p : ℕ) → 0 < w → p < w * h → class_of w t l p < w * h
  class-in p z b =
      let c : ℕ = cell_of_place w t p in
      let below : c < cell_count w h t = place-cell p z b in
      rw (class-is p) (class-within (first_cell w t l c) (tileX c (p % w)) (tileY c (p / w)) (omega (arith, first-le w t l c))
      (turned-below (flip_of c).h (mod-lt (p % w) d.side)) (turned-below (flip_of c).v (mod-lt (p / w) d.side)))
