-- `write_rows`: row by row. Assumes nothing.
use Prim.Native.Nat.{◌+◌, ◌*◌, ◌-◌}
use mathlib.Core.Path.{refl}
use Rattle.tool_paste_model.specs.Blocks.{written, block, source_at}
use Rattle.tool_paste_model.proofs.Drawing.{Drawing, drawing-start, drawing-next, drawing-end, block_none, block-next, row_number, row-place, row-start, row_fits}
use borrow.Author.Rules.{rules}
use Rattle.tool_block.proofs.write_rows.Goals as goal

pub loop-j-init : goal.loop-j-init
loop-j-init c = drawing-start (block_none _ _ _ _ _)

pub overflow_add-y : goal.overflow_add-y
overflow_add-y c = row_number c.requires.0 c.loop-j-test.true

pub overflow_mul-y : goal.overflow_mul-y
overflow_mul-y c = row-place c.requires.0 c.loop-j-test.true

pub overflow_add-y-in-loop-j : goal.overflow_add-y-in-loop-j
overflow_add-y-in-loop-j c = row-start c.requires.0 c.loop-j-test.true

pub overflow_add-y-in-loop-j-2 : goal.overflow_add-y-in-loop-j-2
overflow_add-y-in-loop-j-2 c = row_number c.requires.1 c.loop-j-test.true

pub overflow_mul-y-in-loop-j : goal.overflow_mul-y-in-loop-j
overflow_mul-y-in-loop-j c = row-place c.requires.1 c.loop-j-test.true

pub overflow_add-y-in-loop-j-3 : goal.overflow_add-y-in-loop-j-3
overflow_add-y-in-loop-j-3 c = row-start c.requires.1 c.loop-j-test.true

pub write_row-requires : goal.write_row-requires
write_row-requires c = λ k. (row_fits c.requires.0 c.loop-j-test.true refl k, row_fits c.requires.1 c.loop-j-test.true c.loop-j.invariant.long k)

pub loop-j-preserved : goal.loop-j-preserved
loop-j-preserved c = drawing-next (written (source_at c.args.source.now c.args.source_w c.args.x.from c.args.y.from c.loop-j.j) ((c.args.y.to + c.loop-j.j) * c.args.width + c.args.x.to) c.args.x.count) c.loop-j.invariant c.loop-j-test.true (block-next _ _ _ _ _ _) (search rules) c.write_row.ensures

pub shape_of-scratch : goal.shape_of-scratch
shape_of-scratch c = c.loop-j.invariant.long

pub returns : goal.returns
returns c = drawing-end c.loop-j.invariant c.loop-j-test.false
