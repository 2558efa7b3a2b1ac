-- `extract`: 1 to 3, 17, 16 for the scratch, then the tiles and the map. Assumes nothing.
use mathlib.Core.Path.{sym}
use Prim.Native.Nat.{◌≤◌}
use native.Mathlib.Omega.{arith}
use borrow.Author.Rules.{rules}
use lib.ListN.{length}
use lib.Seq.{length-take-le}
use Rattle.sheet.specs.Checks.{WellFormed}
use Rattle.sheet.specs.Sheet.{sheet_of}
use Rattle.tile_cells.proofs.Corners.{count_small, area}
use Rattle.tile_cells.specs.Cells.{Tiled, cell_count}
use Rattle.tile_extract.proofs.Answers.{extract-sheet, extract-none, extract-wide, extract-high, extract-scratch, extract-done, tiled}
use Rattle.tile_extract.proofs.cutting.extract.Goals as goal
use Rattle.tile_extract.proofs.cutting.extract.Goals.{After-slice_known-3-1, Else-no-ne0, Else-scratch-w}

-- past the first test the sheet is well-formed; past the others the tile side divides it
past : (c : Else-no-ne0) → let a = c.args in
    WellFormed (sheet_of a.w a.h a.k a.palette.now a.lab.now a.indices.now)
past c = c.check-no.ensures.fine c.if-no-ne0.false

fine : (c : Else-scratch-w) → let a = c.args in
    Tiled a.w a.h a.t a.indices.now
fine c =
    let a = c.args in
    tiled (sheet_of a.w a.h a.k a.palette.now a.lab.now a.indices.now) a.t 0 a.tiles.now a.map.now
    (past (goal.at.Else-scratch-w c).Else-no-ne0) c.if-t-eq0.false c.if-w-t-ne0.false c.if-h-t-ne0.false

-- there is a place for each cell
room : (c : After-slice_known-3-1) →
    let a = c.args in
    cell_count a.w a.h a.t ≤ length c.first_cells.new.scratch
room c =
    omega (
      arith,
      count_small (fine (goal.at.After-slice_known-3-1 c).Else-scratch-w),
      c.if-scratch-w.false,
      c.first_cells.auto.scratch,
    )

pub returns-then-no-ne0 : goal.returns-then-no-ne0
returns-then-no-ne0 c = record { map_after = extract-sheet _ _ _ _ _ _ c.check-no.ensures c.if-no-ne0.true; scratch_len_unchanged = search rules }

pub returns-then-t-eq0 : goal.returns-then-t-eq0
returns-then-t-eq0 c = record { map_after = extract-none _ _ _ _ _ (past (goal.at.returns-then-t-eq0 c).Else-no-ne0) c.if-t-eq0.true; scratch_len_unchanged = search rules }

pub returns-then-w-t-ne0 : goal.returns-then-w-t-ne0
returns-then-w-t-ne0 c = record { map_after = extract-wide _ _ _ _ _ (past (goal.at.returns-then-w-t-ne0 c).Else-no-ne0) c.if-t-eq0.false c.if-w-t-ne0.true; scratch_len_unchanged = search rules }

pub returns-then-h-t-ne0 : goal.returns-then-h-t-ne0
returns-then-h-t-ne0 c = record { map_after = extract-high _ _ _ _ _ (past (goal.at.returns-then-h-t-ne0 c).Else-no-ne0) c.if-t-eq0.false c.if-w-t-ne0.false c.if-h-t-ne0.true; scratch_len_unchanged = search rules }

pub overflow_mul-w : goal.overflow_mul-w
overflow_mul-w c = omega (arith, (past (goal.at.overflow_mul-w c).Else-no-ne0).limits.cells)

pub returns-then-scratch-w : goal.returns-then-scratch-w
returns-then-scratch-w c = record {
  map_after = extract-scratch _ _ _ _ _ (past (goal.at.returns-then-scratch-w c).Else-no-ne0) c.if-t-eq0.false c.if-w-t-ne0.false
      c.if-h-t-ne0.false c.if-scratch-w.true;
  scratch_len_unchanged = search rules;
}

pub first_cells-requires : goal.first_cells-requires
first_cells-requires c = (fine (goal.at.first_cells-requires c).Else-scratch-w, omega (arith, count_small (fine (goal.at.first_cells-requires c).Else-scratch-w), c.if-scratch-w.false))

pub overflow_mul-n : goal.overflow_mul-n
unfolding cell_count
overflow_mul-n c = omega (arith, count_small (fine (goal.at.overflow_mul-n c).Else-scratch-w), area (fine (goal.at.overflow_mul-n c).Else-scratch-w))

pub slice_bounds-extract_in-end : goal.slice_bounds-extract_in-end
unfolding cell_count
slice_bounds-extract_in-end c = room c

pub slice_bounds-extract_in-end-2 : goal.slice_bounds-extract_in-end-2
unfolding cell_count
slice_bounds-extract_in-end-2 c = sym (length-take-le _ _ (room (goal.at.slice_bounds-extract_in-end-2 c).After-slice_known-3-1))

pub extract_in-requires : goal.extract_in-requires
unfolding cell_count
extract_in-requires c = (fine (goal.at.extract_in-requires c).Else-scratch-w, c.first_cells.ensures)

pub returns : goal.returns
returns c = record {
  map_after = extract-done _ _ _ _ _ (past (goal.at.returns c).Else-no-ne0) c.if-t-eq0.false c.if-w-t-ne0.false
      c.if-h-t-ne0.false c.if-scratch-w.false c.extract_in.ensures;
  scratch_len_unchanged = search rules;
}
