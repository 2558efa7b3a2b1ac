-- `clear_rows`: row by row. Assumes nothing.
use Prim.Native.Nat.{◌+◌, ◌*◌, ◌-◌}
use lib.IntN.{negsuc}
use Rattle.tool_paste_model.specs.Blocks.{written, block}
use Rattle.tool_paste_model.proofs.Drawing.{Drawing, drawing-start, drawing-next, drawing-end, block_none, block-next, row_number, row-place, row-start, row_fits}
use borrow.Author.Rules.{rules}
use Rattle.tool_block.proofs.clear_rows.Goals as goal

pub loop-j-init : goal.loop-j-init
loop-j-init c = drawing-start (block_none _ _ _ _ _)

pub overflow_add-y : goal.overflow_add-y
overflow_add-y c = row_number c.requires c.loop-j-test.true

pub overflow_mul-y : goal.overflow_mul-y
overflow_mul-y c = row-place c.requires c.loop-j-test.true

pub overflow_add-y-in-loop-j : goal.overflow_add-y-in-loop-j
overflow_add-y-in-loop-j c = row-start c.requires c.loop-j-test.true

pub clear_row-requires : goal.clear_row-requires
clear_row-requires c = row_fits c.requires c.loop-j-test.true c.loop-j.invariant.long

pub loop-j-preserved : goal.loop-j-preserved
loop-j-preserved c = drawing-next (written (λ i. negsuc 0) ((c.args.y + c.loop-j.j) * c.args.width + c.args.x) c.args.w) c.loop-j.invariant c.loop-j-test.true (block-next _ _ _ _ _ _) (search rules) c.clear_row.ensures

pub shape_of-scratch : goal.shape_of-scratch
shape_of-scratch c = c.loop-j.invariant.long

pub returns : goal.returns
returns c = drawing-end c.loop-j.invariant c.loop-j-test.false
