-- The tiles of the cells by their first cells: what `extract` numbers. Definitions only. Assumes nothing.
use Rattle.std.specs.Prelude.{ℕ, zero, suc, ◌+◌, ◌*◌, cond, List, [], ◌∷◌, ◌++◌, eqb, ℤ, length}
use Rattle.tile_cells.specs.Cells.{order_of, first_cell}
use Rattle.tile_cells.specs.Extract.{Entry, entry_of}

-- the cells below c that are their own first cell, in order
unfoldable pub firsts_below : ℕ → ℕ → List ℤ → ℕ → List ℕ
firsts_below w t indices zero = []
firsts_below w t indices (suc c) = cond (eqb (first_cell w t indices c) c) (firsts_below w t indices c ++ (c ∷ [])) (firsts_below w t indices c)

-- the tile of a cell: as many first cells as stand before its own
unfoldable pub tile_id : ℕ → ℕ → List ℤ → ℕ → ℕ
tile_id w t indices c = length (firsts_below w t indices (first_cell w t indices c))

-- the map's entry for a cell
unfoldable pub entry_at : ℕ → ℕ → List ℤ → ℕ → Entry
entry_at w t indices c = entry_of (tile_id w t indices c) (order_of w t indices c (first_cell w t indices c))

-- tile and order as one number
unfoldable pub id_of : ℕ → ℕ → List ℤ → ℕ → ℕ
id_of w t indices c = tile_id w t indices c * 4 + order_of w t indices c (first_cell w t indices c)
