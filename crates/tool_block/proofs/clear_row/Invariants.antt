-- `clear_row`: place by place. Assumes nothing.
use Prim.Native.Nat.{◌+◌, ◌-◌}
use native.Mathlib.Omega.{arith}
use lib.IntN.{negsuc}
use lib.ListN.{set}
use Rattle.tool_paste_model.specs.Blocks.{written}
use Rattle.tool_paste_model.proofs.Drawing.{Drawing, drawing-start, drawing-next, drawing-end, written_none, written_next}
use borrow.Author.Rules.{rules}
use Rattle.tool_block.proofs.clear_row.Given as goal

abbrev pub invariant-loop-i : goal.invariant-loop-i
invariant-loop-i l = Drawing (written (λ i. negsuc 0) l.to) l.initial.scratch l.n l.scratch l.i

abbrev pub decreases-loop-i : goal.decreases-loop-i
decreases-loop-i l = l.n - l.i
