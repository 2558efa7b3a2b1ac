-- A tile as the loops read it, flipped, where it lies: in rows that are `stride` apart, from `corner` on. Definitions only. Assumes nothing.
use Rattle.std.specs.Prelude.{ℕ, ◌+◌, ◌-◌, ◌*◌, ◌≤◌, Bool, false, ℤ, pos, get_or}
use mathlib.Core.List.{List, map, flat_map}
use Rattle.base.specs.Lists.{range}
use Rattle.tile_cells.specs.Tile.{turned}

-- the index in column x of a row of t from a place on
abbrev pub in_row : List ℤ → ℕ → ℕ → Bool → ℕ → ℤ
in_row l at t flipH x = get_or l (at + turned flipH t x) (pos 0)

-- t indices from a place on, from the left or from the right
unfoldable pub row_seen : List ℤ → ℕ → ℕ → Bool → List ℤ
row_seen l at t flipH = map (in_row l at t flipH) (range 0 t)

-- row y of a tile, from the top or from the bottom
abbrev pub row_of : List ℤ → ℕ → ℕ → ℕ → Bool → Bool → ℕ → List ℤ
row_of l corner stride t flipH flipV y = row_seen l (corner + turned flipV t y * stride) t flipH

unfoldable pub tile_seen : List ℤ → ℕ → ℕ → ℕ → Bool → Bool → List ℤ
tile_seen l corner stride t flipH flipV = flat_map (row_of l corner stride t flipH flipV) (range 0 t)

-- the tile as it lies
abbrev pub tile_at : List ℤ → ℕ → ℕ → ℕ → List ℤ
tile_at l corner stride t = tile_seen l corner stride t false false

-- the tile lies inside
abbrev pub Lies : ℕ → ℕ → ℕ → ℕ → Type 0
Lies size corner stride t = corner + (t - 1) * stride + t ≤ size
