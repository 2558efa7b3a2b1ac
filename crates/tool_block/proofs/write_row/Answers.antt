-- `write_row`: index by index. Assumes nothing.
use mir.Syntax.{w16}
use Rattle.base.proofs.Back.{back}
use Prim.Native.Nat.{◌+◌, ◌-◌}
use native.Mathlib.Omega.{arith}
use lib.IntN.{pos}
use lib.ListN.{get_or, set}
use Rattle.tool_paste_model.specs.Blocks.{written}
use Rattle.tool_paste_model.proofs.Drawing.{Drawing, drawing-start, drawing-next, drawing-end, written_none, written_next}
use borrow.Author.Rules.{rules}
use Rattle.tool_block.proofs.write_row.Goals as goal

pub loop-i-init : goal.loop-i-init
loop-i-init c = drawing-start (written_none _ _)

pub overflow_add-to : goal.overflow_add-to
overflow_add-to c = let h = c.requires (omega (arith, c.loop-i-test.true)) in omega (arith, h.1, c.loop-i-test.true)

pub overflow_add-from : goal.overflow_add-from
overflow_add-from c = let h = c.requires (omega (arith, c.loop-i-test.true)) in omega (arith, h.0, c.loop-i-test.true)

pub offset_bounds-source-from : goal.offset_bounds-source-from
offset_bounds-source-from c = let h = c.requires (omega (arith, c.loop-i-test.true)) in omega (arith, h.0, c.loop-i-test.true)

pub bounds-source-from : goal.bounds-source-from
bounds-source-from c = let h = c.requires (omega (arith, c.loop-i-test.true)) in omega (arith, h.0, c.loop-i-test.true)

pub paint-requires : goal.paint-requires
paint-requires c = let h = c.requires (omega (arith, c.loop-i-test.true)) in let l = c.loop-i.invariant.long in omega (arith, h.1, c.loop-i-test.true)

pub loop-i-preserved : goal.loop-i-preserved
loop-i-preserved c = drawing-next (λ l. set l (c.args.to + c.loop-i.i) (get_or c.args.source.now (c.args.from + c.loop-i.i) (pos 0))) c.loop-i.invariant c.loop-i-test.true (written_next _ _ _) (search rules) (rw (back w16 _ c.paint-arg-in-loop-i-1.given) at c.paint.ensures.by_index)

pub shape_of-scratch : goal.shape_of-scratch
shape_of-scratch c = c.loop-i.invariant.long

pub returns : goal.returns
returns c = drawing-end c.loop-i.invariant c.loop-i-test.false
