-- `clear_rows`: row by row. Assumes nothing.
use Prim.Native.Nat.{◌+◌, ◌*◌, ◌-◌}
use lib.IntN.{negsuc}
use Rattle.tool_paste_model.specs.Blocks.{written, block}
use Rattle.tool_paste_model.proofs.Drawing.{Drawing, drawing-start, drawing-next, drawing-end, block_none, block-next, row_number, row-place, row-start, row_fits}
use borrow.Author.Rules.{rules}
use Rattle.tool_block.proofs.clear_rows.Given as goal

abbrev pub invariant-loop-j : goal.invariant-loop-j
invariant-loop-j l = Drawing (block (λ j i. negsuc 0) l.width l.x l.y l.w) l.initial.scratch l.h l.scratch l.j

abbrev pub decreases-loop-j : goal.decreases-loop-j
decreases-loop-j l = l.h - l.j
