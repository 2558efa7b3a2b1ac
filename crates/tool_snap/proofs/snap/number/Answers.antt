-- `number`: the bytes in their places. Assumes nothing.
use native.Mathlib.Omega.{arith}
use borrow.Author.Rules.{rules}
use Rattle.tool_snap.proofs.Slots.{numbered}
use Rattle.tool_snap.proofs.snap.number.Goals as goal

pub returns : goal.returns
returns c = numbered _ (omega arith) (omega arith) (omega arith)
