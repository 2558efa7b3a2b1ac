-- `reconstruct` of tiles.rs: the image that a tileset and a map draw. Definitions only. Assumes nothing.
use Rattle.std.specs.Prelude.{ℕ, suc, ◌+◌, ◌*◌, ◌/◌, ◌%◌, ◌||◌, cond, List, [], ◌∷◌, ◌++◌, ltb, leb, eqb, ℤ, negsuc, length, get_or, take, drop, replicate}
use Rattle.base.specs.Lists.{some, range}
use Rattle.tile_cells.specs.Tile.{flipped}
use Rattle.tile_cells.specs.Extract.{Entry, Extracted}

-- `out[at..at + row.len()].copy_from_slice(row)`
unfoldable pub pasted : ℕ → List ℤ → List ℤ → List ℤ
pasted at row out = take at out ++ (row ++ drop (at + length row) out)

-- `for r in 0..t { out[(y + r) * w + x..].copy_from_slice(&tile[r * t..(r + 1) * t]) }`, the corner (x, y) of the tile at y * w + x
unfoldable pub drawn_rows : ℕ → ℕ → List ℤ → ℕ → ℕ → List ℕ → List ℤ → List ℤ
drawn_rows t w tile x y [] out = out
drawn_rows t w tile x y (r ∷ rs) out = drawn_rows t w tile x y rs (pasted ((y + r) * w + x) (take t (drop (r * t) tile)) out)

-- `for (i, &[tile_id, fh, fv]) in tilemap.tiles.iter().enumerate() { .. let (y, x) = ((i / wt) * t, (i % wt) * t); .. }`
unfoldable pub drawn : ℕ → ℕ → List (List ℤ) → ℕ → List Entry → List ℤ → List ℤ
drawn t wt tiles i [] out = out
drawn t wt tiles i (e ∷ es) out =
    drawn t wt tiles (suc i) es (drawn_rows t (wt * t) (flipped t e.h e.v (get_or tiles e.tile [])) (i % wt * t) (i / wt * t) (range 0 t) out)

-- `Result<(Vec<i64>, usize, usize), String>`, without the message and the sizes
pub data Rebuilt : Type 0 where
  image : List ℤ → Rebuilt
  failed : Rebuilt

-- "tile_size must be positive", "more tilemap entries than tiles in the map", "tile id out of range"; else over `vec![-1i64; h * w]`
unfoldable pub reconstruct_of : ℕ → ℕ → ℕ → Extracted → Rebuilt
reconstruct_of t wt ht e =
    cond (eqb t 0 || (ltb (wt * ht) (length e.entries) || some (λ entry. leb (length e.unique) entry.tile) e.entries))
    failed
    (image (drawn t wt e.unique 0 e.entries (replicate (ht * t * (wt * t)) (negsuc 0))))
