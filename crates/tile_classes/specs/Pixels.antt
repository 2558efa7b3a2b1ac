-- The cells by the pixels of their least flip. Definitions only. Assumes nothing.
use Rattle.std.specs.Prelude.{ℕ, ◌<◌, ◌≡◌, List, ℤ, pos, get_or}
use Rattle.tile_cells.specs.Tile.{turned_by}
use Rattle.tile_cells.specs.Cells.{cell_of}
use Rattle.tile_least.specs.Least.{least_of}
use Rattle.tile_classes.specs.Places.{order_in}
use Rattle.tile_classes.specs.Classes.{Classed}

module _ (w t : ℕ) (indices : List ℤ) where
  -- pixel p of cell c, in its least flip
  unfoldable pub pixel_of : ℕ → ℕ → ℤ
  pixel_of c p = get_or (least_of t (cell_of w t indices c)) p (pos 0)

  -- a place has the order in which its cell is least
  abbrev pub LeastBy : ℕ → ℕ → Type 0
  LeastBy c v = turned_by t (order_in v) (cell_of w t indices c) ≡ least_of t (cell_of w t indices c)

  -- after p rounds
  pub record Told (n p : ℕ) (s : List ℕ) : Type 0 where
    pub classed : Classed n pixel_of p s
    pub least : (c : ℕ) → c < n → LeastBy c (get_or s c 0)
