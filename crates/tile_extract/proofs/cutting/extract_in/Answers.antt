-- `extract_in`: the first cells numbered, 16 for either buffer, then both are filled. Assumes nothing.
use mathlib.Core.List.{map}
use mathlib.Core.Path.{◌≡◌, ap, ◌∙◌}
use Prim.Native.Nat.{◌*◌}
use native.Mathlib.Omega.{arith}
use lib.ListN.{length}
use Rattle.base.specs.Lists.{range, over}
use Rattle.tile_cells.proofs.Corners.{count_small, area}
use Rattle.tile_cells.proofs.Rows.{length-first}
use Rattle.tile_cells.specs.Cells.{cell_count}
use Rattle.tile_cells.specs.Ids.{firsts_below, id_of}
use Rattle.tile_extract.proofs.Answers.{tiles-short, map-short, both-done}
use Rattle.tile_layout.proofs.Laid.{tiles-few, tiles-half, ids-small, tiles-are, map_is}
use Rattle.tile_layout.proofs.Numbered.{coded_in, ids-in, count-in}
use Rattle.tile_extract.proofs.cutting.extract_in.Goals as goal
use Rattle.tile_extract.proofs.cutting.extract_in.Goals.{After-number_tiles-m}

-- the numbers of the tiles, how many they are, and how many places
ids : (c : After-number_tiles-m) → let a = c.args in
    c.number_tiles-m.new.s ≡ map (id_of a.w a.t a.indices.now) (range 0 (cell_count a.w a.h a.t))
ids c =
    let a = c.args in
    ids-in a.w a.h a.t a.indices.now _ c.requires.1 c.number_tiles-m.ensures.0

count : (c : After-number_tiles-m) → let a = c.args in
    c.number_tiles-m.result ≡ length (firsts_below a.w a.t a.indices.now (cell_count a.w a.h a.t))
count c =
    let a = c.args in
    count-in a.w a.h a.t a.indices.now _ c.requires.1 c.number_tiles-m.ensures.1

places : (c : After-number_tiles-m) → let a = c.args in length c.number_tiles-m.new.s ≡ (cell_count a.w a.h a.t)
places c =
    let a = c.args in
    ap length (ids c) ∙ length-first (id_of a.w a.t a.indices.now) (cell_count a.w a.h a.t)

sized : (c : After-number_tiles-m) → let a = c.args in
    c.number_tiles-m.result * a.t * a.t ≡ length (firsts_below a.w a.t a.indices.now (cell_count a.w a.h a.t)) * (a.t * a.t)
sized c = rw (count c) (omega arith)

pub number_tiles-m-requires : goal.number_tiles-m-requires
number_tiles-m-requires c = let a = c.args in coded_in a.w a.h a.t a.indices.now _ c.requires.1

pub overflow_mul-m : goal.overflow_mul-m
overflow_mul-m c =
    let a = c.args in
    rw (count (goal.at.overflow_mul-m c).After-number_tiles-m) (omega (
      arith,
      tiles-half a.w a.h a.t a.indices.now
          c.requires.0,
    ))

pub overflow_mul-m-2 : goal.overflow_mul-m-2
overflow_mul-m-2 c =
    let a = c.args in
    rw (count (goal.at.overflow_mul-m-2 c).After-number_tiles-m) (omega (
      arith,
      tiles-few a.w a.h a.t a.indices.now
          c.requires.0,
    ))

pub returns-then-tiles-m : goal.returns-then-tiles-m
returns-then-tiles-m c =
    let a = c.args in
    tiles-short a.w a.h a.t a.indices.now _ _ (omega (arith, sized (goal.at.returns-then-tiles-m c).After-number_tiles-m, c.if-tiles-m.true))

pub overflow_mul-n : goal.overflow_mul-n
overflow_mul-n c =
    let d = c.requires.0 in
    omega (arith, places (goal.at.overflow_mul-n c).After-number_tiles-m, count_small d, area d)

pub returns-then-map-n : goal.returns-then-map-n
returns-then-map-n c =
    let a = c.args in
    map-short a.w a.h a.t a.indices.now _ _ (omega (arith, sized (goal.at.returns-then-map-n c).After-number_tiles-m, c.if-tiles-m.false))
    (omega (arith, places (goal.at.returns-then-map-n c).After-number_tiles-m, c.if-map-n.true))

pub copy_tiles-requires : goal.copy_tiles-requires
copy_tiles-requires c = record {
  tiled = (c.requires.0, places (goal.at.copy_tiles-requires c).After-number_tiles-m);
  s_value = ids (goal.at.copy_tiles-requires c).After-number_tiles-m;
  t_in_bounds = omega (arith, sized (goal.at.copy_tiles-requires c).After-number_tiles-m, c.if-tiles-m.false);
}

pub put_map-requires : goal.put_map-requires
put_map-requires c =
    let a = c.args in (
      ids-small a.w a.h a.t a.indices.now
          c.requires.0
          (ids (goal.at.put_map-requires c).After-number_tiles-m)
          (places (goal.at.put_map-requires c).After-number_tiles-m),
      c.if-map-n.false,
    )

pub returns : goal.returns
returns c =
    let a = c.args in
    rw (count (goal.at.returns c).After-number_tiles-m, places (goal.at.returns c).After-number_tiles-m) (both-done a.w a.h a.t a.indices.now _ _
    (omega (arith, sized (goal.at.returns c).After-number_tiles-m, c.if-tiles-m.false))
    (omega (arith, places (goal.at.returns c).After-number_tiles-m, c.if-map-n.false)) _ _
    (c.copy_tiles.ensures ∙ ap (λ m. over m a.tiles.now)
    (tiles-are a.w a.h a.t a.indices.now)) (c.put_map.ensures ∙ ap (λ m. over m a.map.now)
    (map_is a.w a.h a.t a.indices.now (ids (goal.at.returns c).After-number_tiles-m) (places (goal.at.returns c).After-number_tiles-m))))
