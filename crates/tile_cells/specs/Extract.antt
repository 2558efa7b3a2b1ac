-- `extract` of tiles.rs at tolerance 0: a pass over the cells that collects the unique tiles and the map. Definitions only. Assumes nothing.
use Rattle.std.specs.Prelude.{ℕ, Bool, cond, ltb, ℤ, length, get_or}
use mathlib.Core.List.{List, [], ◌∷◌, ◌++◌, flat_map}
use Rattle.tile_cells.specs.Tile.{flip_at, position, order_to, is_flip_of}
use Rattle.tile_cells.specs.Cells.{cells}

-- "A map entry [tile_id, flip_h, flip_v] means: draw tileset tile tile_id with those flips"
pub record Entry : Type 0 where
  pub tile : ℕ
  pub h : Bool
  pub v : Bool

-- `[tile_id as i64, FLIPS[order].0, FLIPS[order].1]`
unfoldable pub entry_of : ℕ → ℕ → Entry
entry_of tile order = record { tile = tile; h = (flip_at order).h; v = (flip_at order).v }

-- `unique` and `entries`
pub record Extracted : Type 0 where
  pub unique : List (List ℤ)
  pub entries : List Entry

-- "An exact match (any flip) is used when one exists, preferring the lowest tile id, then the flip order in FLIPS"; else the tile is
-- the next unique one, `(n_unique, 0)`
unfoldable pub entered : ℕ → Extracted → List ℤ → Extracted
entered t e tile =
    let id = position (is_flip_of t tile) e.unique in
    cond (ltb id (length e.unique))
    (record { unique = e.unique; entries = e.entries ++ (entry_of id (order_to t tile (get_or e.unique id [])) ∷ []) })
    (record { unique = e.unique ++ (tile ∷ []); entries = e.entries ++ (entry_of (length e.unique) 0 ∷ []) })

-- `for i in 0..n_cells { .. }`
unfoldable pub entered_all : ℕ → Extracted → List (List ℤ) → Extracted
entered_all t e [] = e
entered_all t e (tile ∷ tiles) = entered_all t (entered t e tile) tiles

unfoldable pub extract_of : ℕ → ℕ → ℕ → List ℤ → Extracted
extract_of w h t indices = entered_all t (record { unique = []; entries = [] }) (cells w h t indices)

-- ---- as the call lays them out: the unique tiles one after the other, and three numbers an entry: tile, flip h, flip v, a flip 1 or 0
unfoldable pub tiles_of : Extracted → List ℤ
tiles_of e = flat_map (λ tile. tile) e.unique

unfoldable pub flat_entry : Entry → List ℕ
flat_entry e = e.tile ∷ cond e.h 1 0 ∷ cond e.v 1 0 ∷ []

unfoldable pub map_of : Extracted → List ℕ
map_of e = flat_map flat_entry e.entries
