-- `write_row`: index by index. Assumes nothing.
use mir.Syntax.{w16}
use Rattle.base.proofs.Back.{back}
use Prim.Native.Nat.{◌+◌, ◌-◌}
use native.Mathlib.Omega.{arith}
use lib.IntN.{pos}
use lib.ListN.{get_or, set}
use Rattle.tool_paste_model.specs.Blocks.{written}
use Rattle.tool_paste_model.proofs.Drawing.{Drawing, drawing-start, drawing-next, drawing-end, written_none, written_next}
use borrow.Author.Rules.{rules}
use Rattle.tool_block.proofs.write_row.Given as goal

abbrev pub invariant-loop-i : goal.invariant-loop-i
invariant-loop-i l = Drawing (written (λ i. get_or l.source (l.from + i) (pos 0)) l.to) l.initial.scratch l.n l.scratch l.i

abbrev pub decreases-loop-i : goal.decreases-loop-i
decreases-loop-i l = l.n - l.i
