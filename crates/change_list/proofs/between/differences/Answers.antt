-- `differences`: what stands there and the rows below give the whole. Assumes nothing.
use native.Mathlib.Omega.{arith}
use Rattle.change_list.proofs.Rows.{row_inside, listing-next, listing-end}
use Rattle.change_list.proofs.between.differences.Goals as goal

pub slice_bounds-row_differences-end : goal.slice_bounds-row_differences-end
slice_bounds-row_differences-end c = row_inside _ _ _ c.args.indices.now _ c.requires c.loop-y.invariant c.loop-y-test.true

pub loop-y-preserved : goal.loop-y-preserved
loop-y-preserved c =
    let r = c.row_differences-m.ensures in
    listing-next _ _ _ c.args.indices.now _ c.requires c.loop-y.invariant c.loop-y-test.true c.loop-y.auto.y r.all r.put

pub returns : goal.returns
returns c = listing-end _ _ _ c.args.indices.now _ c.requires c.loop-y.invariant c.loop-y.auto.scratch (omega arith)
