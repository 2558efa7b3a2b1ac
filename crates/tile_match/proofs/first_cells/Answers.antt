-- `first_cells`: along chains in as much of the scratch as there are cells; and by classes in all of it. Assumes nothing.
use mathlib.Core.Path.{◌≡◌, sym, ap, ◌∙◌}
use Prim.Native.Nat.{◌<◌}
use native.Mathlib.Omega.{arith}
use lib.ListN.{length}
use lib.Seq.{length-take-le, length_front, take_at}
use Rattle.tile_cells.specs.Cells.{cell_count, first_cells}
use Rattle.tile_match.proofs.Entering.{length-first-cells}
use Rattle.tile_match.proofs.first_cells.Goals as goal
use Rattle.tile_match.proofs.first_cells.Goals.{Else-done, Then-done}

filled : (c : Then-done) → let a = c.args in
    c.fill-done.new.s ≡ first_cells a.w a.h a.t a.indices.now
filled c = c.fill-done.ensures.s_after c.if-done.true

few : (c : Else-done) → let a = c.args in
    c.longest-most.result < cell_count a.w a.h a.t
few c = c.fill-done.ensures.most_bound c.if-done.false

pub longest-most-requires : goal.longest-most-requires
unfolding cell_count
longest-most-requires c = c.requires.1

pub slice_bounds-fill-end : goal.slice_bounds-fill-end
unfolding cell_count
slice_bounds-fill-end c = c.requires.1

pub slice_bounds-fill-end-2 : goal.slice_bounds-fill-end-2
unfolding cell_count
slice_bounds-fill-end-2 c = sym (length-take-le _ _ c.requires.1)

pub fill-done-requires : goal.fill-done-requires
unfolding cell_count
fill-done-requires c = (c.requires.0, length-take-le _ _ c.requires.1)

pub returns-then-done : goal.returns-then-done
unfolding cell_count
returns-then-done c =
    let a = c.args in
    take_at _ _ _ (ap length (filled c) ∙ length-first-cells a.w a.h a.t a.indices.now) ∙ filled c

pub first_cells_sorted-requires : goal.first_cells_sorted-requires
unfolding cell_count
first_cells_sorted-requires c =
    let k = few (goal.at.first_cells_sorted-requires c).Else-done in (
      c.requires.0,
      omega (arith, k),
      rw (length_front _ _ _ c.fill-done.auto.s)
          (c.longest-most.ensures k),
    )
