-- The cells of a sheet that is cut into tiles, and for each the first cell that it is a flip of. Definitions only. Assumes nothing.
use Rattle.std.specs.Prelude.{ℕ, ◌+◌, ◌*◌, ◌/◌, ◌%◌, ◌≤◌, ◌<◌, ◌≡◌, List, map, ℤ, pos, length, get_or}
use Rattle.base.specs.Lists.{range}
use Rattle.tile_cells.specs.Tile.{grid, position, order_to, is_flip_of}

-- "tile side 0 or not dividing both sides" does not apply; the limits are document 01's
pub record Tiled (w h t : ℕ) (indices : List ℤ) : Type 0 where
  pub side : 0 < t
  pub across : w % t ≡ 0
  pub down : h % t ≡ 0
  pub w-small : w ≤ 1024
  pub h-small : h ≤ 1024
  pub long : length indices ≡ w * h

-- `let (ht, wt) = (h / t, w / t); let n_cells = ht * wt;`
unfoldable pub cell_count : ℕ → ℕ → ℕ → ℕ
cell_count w h t = h / t * (w / t)

-- cell c, in the row c / wt and the column c % wt of the cells: `idx[(ty * t + y) * w + tx * t + x]`
unfoldable pub cell_of : ℕ → ℕ → List ℤ → ℕ → List ℤ
cell_of w t indices c = grid t (λ y x. get_or indices ((c / (w / t) * t + y) * w + c % (w / t) * t + x) (pos 0))

-- where it begins
unfoldable pub corner_of : ℕ → ℕ → ℕ → ℕ
corner_of w t c = c / (w / t) * t * w + c % (w / t) * t

unfoldable pub cells : ℕ → ℕ → ℕ → List ℤ → List (List ℤ)
cells w h t indices = map (cell_of w t indices) (range 0 (cell_count w h t))

-- the first order in which cell c, flipped, is cell f; 4 where there is none
unfoldable pub order_of : ℕ → ℕ → List ℤ → ℕ → ℕ → ℕ
order_of w t indices c f = order_to t (cell_of w t indices c) (cell_of w t indices f)

-- the first cell that cell c is a flip of: c itself where none before it is
unfoldable pub first_cell : ℕ → ℕ → List ℤ → ℕ → ℕ
first_cell w t indices c = position (λ f. is_flip_of t (cell_of w t indices c) (cell_of w t indices f)) (range 0 c)

-- the first cell and the order in which cell c is it, as one number
unfoldable pub code_of : ℕ → ℕ → List ℤ → ℕ → ℕ
code_of w t indices c = first_cell w t indices c * 4 + order_of w t indices c (first_cell w t indices c)

-- the same of every cell, in order: what `first_cells` leaves at the front of the scratch
unfoldable pub first_cells : ℕ → ℕ → ℕ → List ℤ → List ℕ
first_cells w h t indices = map (code_of w t indices) (range 0 (cell_count w h t))
