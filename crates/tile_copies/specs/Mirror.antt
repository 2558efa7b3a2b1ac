-- `mirror_tiles` of tools.rs, statement by statement, over `extract`'s map. Definitions only. Assumes nothing.
use Rattle.std.specs.Prelude.{ℕ, ◌+◌, ◌*◌, ◌%◌, ◌≤◌, ◌<◌, ◌^◌, false, not, cond, ◌&&◌, eqb, ℤ, pos, length, get_or}
use mathlib.Core.List.{List, [], ◌∷◌, ◌++◌, flat_map}
use Rattle.std.specs.Int.{w16}
use Rattle.std.proofs.Common.{SFits}
use Rattle.base.specs.Lists.{range, kept}
use Rattle.selection.specs.declared.Selection.{Selection}
use Rattle.selection.specs.Selection.{contains}
use Rattle.edit.specs.Change.{Change, unpacked}
use Rattle.change_normal.specs.Normal.{normalize_of}
use Rattle.tile_cells.specs.Tile.{turned}
use Rattle.tile_cells.specs.Cells.{Tiled}
use Rattle.tile_cells.specs.Extract.{Entry, Extracted, extract_of}
use Rattle.tile_marks.specs.Cell.{cell_at, column_in, row_in}

-- `map[cell]`
unfoldable pub entry_in : Extracted → ℕ → Entry
entry_in e cell = get_or e.entries cell (record { tile = 0; h = false; v = false })

-- `if region.contains(x, y) { out.push(PixelChange { x, y, old: doc.get(x, y), new: c.new }) }`
unfoldable pub copy_at : ℕ → List ℤ → Selection → ℤ → ℕ → ℕ → List Change
copy_at w l region new x y = cond (contains region x y) (record { x = x; y = y; old = get_or l (y * w + x) (pos 0); new = new } ∷ []) []

-- the change c copied to cell other: `let (tx, ty) = (flip(c.x % t, fh), flip(c.y % t, fv));`
unfoldable pub copy_in : ℕ → ℕ → List ℤ → Selection → Extracted → Change → ℕ → List Change
copy_in w t l region e c other =
    let own = entry_in e (cell_at w t c.x c.y) in
    let there = entry_in e other in
    let tx = turned own.h t (c.x % t) in
    let ty = turned own.v t (c.y % t) in
    copy_at w l region c.new (column_in w t other (turned there.h t tx)) (row_in w t other (turned there.v t ty))

-- `for &other in &instances[&id] { if other == cell { continue; } .. }`: the other cells of one tile, in order
unfoldable pub instances : Extracted → ℕ → List ℕ
instances e cell = kept (λ other. eqb (entry_in e other).tile (entry_in e cell).tile && not (eqb other cell)) (range 0 (length e.entries))

unfoldable pub copies_of : ℕ → ℕ → List ℤ → Selection → Extracted → Change → List Change
copies_of w t l region e c = flat_map (copy_in w t l region e c) (instances e (cell_at w t c.x c.y))

-- `for c in changes { .. }`, then `out.extend_from_slice(changes)`: "Last, so the caller's own changes win."
unfoldable pub mirror_changes : ℕ → ℕ → List ℤ → Selection → Extracted → List Change → List Change
mirror_changes w t l region e cs = flat_map (copies_of w t l region e) cs ++ cs

-- "computed on the document before the change"; `normalize(out)`
unfoldable pub mirrored : ℕ → ℕ → ℕ → List ℤ → Selection → List Change → List Change
mirrored w h t l region cs = normalize_of (mirror_changes w t l region (extract_of w h t l) cs)

-- ---- what the steps together ask: a sheet that is cut into tiles, and changes on it
pub record Mirrorable (w h t : ℕ) (l : List ℤ) (list : List ℕ) : Type 0 where
  pub tiled : Tiled w h t l
  pub fits : (p : ℕ) → SFits w16 (get_or l p (pos 0))
  pub some : 0 < length list
  pub few : length list ≤ 2 ^ 20
  pub across : (j : ℕ) → j < length list → (unpacked (get_or list j 0)).x < w
  pub down : (j : ℕ) → j < length list → (unpacked (get_or list j 0)).y < h
