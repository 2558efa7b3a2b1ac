-- `is_whole`: the three tests. Assumes nothing.
use Rattle.tool_brush.proofs.Edges.{edge-first, edge-second}
use borrow.Author.Rules.{rules}
use Rattle.tool_brush.proofs.frame.is_whole.Goals as goal

pub returns-then-filled : goal.returns-then-filled
returns-then-filled c = rw c.if-filled.true

pub returns-then-at-top : goal.returns-then-at-top
returns-then-at-top c = rw c.if-filled.false (edge-first _ c.requires _ _ c.ranges.top c.ranges.bottom c.if-at-top.true)

pub returns-else-at-top : goal.returns-else-at-top
returns-else-at-top c = rw c.if-filled.false (edge-second _ c.requires _ _ c.ranges.top c.ranges.bottom c.if-at-top.false)
