-- `clear_row`: place by place. Assumes nothing.
use Prim.Native.Nat.{◌+◌, ◌-◌}
use native.Mathlib.Omega.{arith}
use lib.IntN.{negsuc}
use lib.ListN.{set}
use Rattle.tool_paste_model.specs.Blocks.{written}
use Rattle.tool_paste_model.proofs.Drawing.{Drawing, drawing-start, drawing-next, drawing-end, written_none, written_next}
use borrow.Author.Rules.{rules}
use Rattle.tool_block.proofs.clear_row.Goals as goal

pub loop-i-init : goal.loop-i-init
loop-i-init c = drawing-start (written_none _ _)

pub overflow_add-to : goal.overflow_add-to
overflow_add-to c = let h = c.requires (omega (arith, c.loop-i-test.true)) in omega (arith, c.loop-i-test.true)

pub paint-requires : goal.paint-requires
paint-requires c = let h = c.requires (omega (arith, c.loop-i-test.true)) in let l = c.loop-i.invariant.long in omega (arith, c.loop-i-test.true)

pub loop-i-preserved : goal.loop-i-preserved
loop-i-preserved c = drawing-next (λ l. set l (c.args.to + c.loop-i.i) (negsuc 0)) c.loop-i.invariant c.loop-i-test.true (written_next _ _ _) (search rules) c.paint.ensures.by_index

pub shape_of-scratch : goal.shape_of-scratch
shape_of-scratch c = c.loop-i.invariant.long

pub returns : goal.returns
returns c = drawing-end c.loop-i.invariant c.loop-i-test.false
