-- `copy_tiles`: the first cells below c are copied. Assumes nothing.
use Prim.Native.Nat.{◌+◌, ◌*◌, ◌<◌, ◌≤◌}
use native.Mathlib.Nat.{mul-le-mul_left}
use native.Mathlib.Omega.{arith}
use lib.ListN.{length, length-take, length-drop}
use Rattle.tile_cells.proofs.Corners.{fits, corner-small, corner-lies}
use Rattle.tile_cells.specs.Cells.{cell_count}
use Rattle.tile_layout.proofs.Laid.{copying-none, copying-old, copying-room, copying-new, id-in}
use Rattle.tile_layout.proofs.laying.copy_tiles.Goals as goal
use Rattle.tile_layout.proofs.laying.copy_tiles.Goals.{Then-v-k, then-v-k, else-v-k}

below : (c : Then-v-k) → let a = c.args in c.loop-c.c < cell_count a.w a.h a.t
below c = omega (arith, c.requires.tiled.1)

room : (c : Then-v-k) → let a = c.args in c.loop-c.k * a.t * a.t + a.t * a.t ≤ length a.tiles.now
room c =
    let a = c.args in
    let p = c.requires in
    copying-room a.w a.h a.t a.indices.now c.loop-c.invariant (below c) (id-in a.w a.h a.t a.indices.now c.loop-c.c p.s_value (below c)) c.if-v-k.true p.t_in_bounds

half : (c : Then-v-k) → let a = c.args in c.loop-c.k * a.t ≤ c.loop-c.k * a.t * a.t
half c = let a = c.args in omega (arith, mul-le-mul_left {m = 1} {n = a.t} (c.loop-c.k * a.t) c.requires.tiled.0.side)

pub loop-c-init : goal.loop-c-init
loop-c-init c = copying-none _ _ _ _ _

pub overflow_mul-to : goal.overflow_mul-to
overflow_mul-to c = omega (arith, room c, half c)

pub overflow_mul-to-then-v-k : goal.overflow_mul-to-then-v-k
overflow_mul-to-then-v-k c = omega (arith, room c)

pub corner_of-requires : goal.corner_of-requires
corner_of-requires c = let d = c.requires.tiled.0 in (d.side, fits d (below c), corner-small d (below c))

pub offset_bounds-tiles-to : goal.offset_bounds-tiles-to
offset_bounds-tiles-to c = omega (arith, room (goal.at.offset_bounds-tiles-to c).Then-v-k, c.loop-c.invariant.long)

pub slice_bounds-copy_tile-count : goal.slice_bounds-copy_tile-count
slice_bounds-copy_tile-count c = omega (arith, room (goal.at.slice_bounds-copy_tile-count c).Then-v-k, c.loop-c.invariant.long)

pub slice_bounds-copy_tile-start : goal.slice_bounds-copy_tile-start
slice_bounds-copy_tile-start c = omega (arith, room (goal.at.slice_bounds-copy_tile-start c).Then-v-k, c.loop-c.invariant.long)

pub copy_tile-requires : goal.copy_tile-requires
copy_tile-requires c = (rw c.corner_of.ensures (corner-lies c.requires.tiled.0 (below (goal.at.copy_tile-requires c).Then-v-k)), simp (length-take, length-drop) (omega (arith, room (goal.at.copy_tile-requires c).Then-v-k, c.loop-c.invariant.long)))

pub loop-c-preserved : goal.loop-c-preserved
loop-c-preserved c =
    let a = c.args in
    let p = c.requires in
    let b : c.loop-c.c < cell_count a.w a.h a.t = omega (arith, p.tiled.1) in
    let e = id-in a.w a.h a.t a.indices.now c.loop-c.c p.s_value b in
    elim c.if-v-k.branch [
      | then-v-k w ↦ rw (w.tiles-is, w.k-is) (copying-new a.w a.h a.t a.indices.now c.loop-c.invariant b e w.if-v-k.true p.t_in_bounds _ w.corner_of.ensures _ w.copy_tile.ensures)
      | else-v-k w ↦ rw (w.tiles-is, w.k-is) (copying-old a.w a.h a.t a.indices.now c.loop-c.invariant b e w.if-v-k.false)
    ]
