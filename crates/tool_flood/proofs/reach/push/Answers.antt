-- `push`: the two stores. Assumes nothing.
use native.Mathlib.Omega.{arith}
use Rattle.tool_fill_model.specs.Cells.{marked, queued}
use borrow.Author.Rules.{rules}
use Rattle.tool_flood.proofs.reach.push.Goals as goal

pub returns : goal.returns
unfolding queued marked
returns c = search rules
