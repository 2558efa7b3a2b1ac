-- `write_rows`: row by row. Assumes nothing.
use Prim.Native.Nat.{◌+◌, ◌*◌, ◌-◌}
use mathlib.Core.Path.{refl}
use Rattle.tool_paste_model.specs.Blocks.{written, block, source_at}
use Rattle.tool_paste_model.proofs.Drawing.{Drawing, drawing-start, drawing-next, drawing-end, block_none, block-next, row_number, row-place, row-start, row_fits}
use borrow.Author.Rules.{rules}
use Rattle.tool_block.proofs.write_rows.Given as goal

abbrev pub invariant-loop-j : goal.invariant-loop-j
invariant-loop-j l = Drawing (block (source_at l.source l.source_w l.x.from l.y.from) l.width l.x.to l.y.to l.x.count) l.initial.scratch l.y.count l.scratch l.j

abbrev pub decreases-loop-j : goal.decreases-loop-j
decreases-loop-j l = l.y.count - l.j
