-- The cell of a pixel, and the pixels of a cell: two statements of `mirror_tiles` of tools.rs. Definitions only. Assumes nothing.
use Rattle.std.specs.Prelude.{ℕ, ◌+◌, ◌*◌, ◌/◌, ◌%◌}

-- `(c.y / t) * columns + c.x / t`, with `columns = w / t`
unfoldable pub cell_at : ℕ → ℕ → ℕ → ℕ → ℕ
cell_at w t x y = y / t * (w / t) + x / t

-- `let x = (other % columns) * t + flip(tx, oh); let y = (other / columns) * t + flip(ty, ov);`
unfoldable pub column_in : ℕ → ℕ → ℕ → ℕ → ℕ
column_in w t other tx = other % (w / t) * t + tx

unfoldable pub row_in : ℕ → ℕ → ℕ → ℕ → ℕ
row_in w t other ty = other / (w / t) * t + ty
