-- `positions`: w × h is their number, and past the check `write_rows` has room. Assumes nothing.
use Prim.Native.Nat.{◌≤◌}
use native.Mathlib.Nat.{mul-le-mul}
use native.Mathlib.Omega.{arith}
use borrow.Author.Rules.{rules}
use borrow.Author.Tests.{lt-ltb, le-ltb}
use Rattle.base.specs.Checks.{first_of, refused_or}
use Rattle.selection.specs.Selection.{positions}
use Rattle.selection.specs.Calls.{positions_of}
use Rattle.selection.proofs.Rows.{length-positions}
use Rattle.selection.proofs.Selection.positions.Goals as goal
use Rattle.selection.proofs.Selection.positions.Goals.{After-struct_known-2-1}

across : (c : After-struct_known-2-1) → c.args.self.w ≤ 65535
across c = omega arith

down : (c : After-struct_known-2-1) → c.args.self.h ≤ 65535
down c = omega arith

pub overflow_mul-count : goal.overflow_mul-count
overflow_mul-count c = omega (arith, mul-le-mul {n₂ = 65535} {m₂ = 65535} (across c) (down c))

pub returns-then-out-count : goal.returns-then-out-count
unfolding positions_of first_of refused_or
returns-then-out-count c = rw (length-positions c.args.self, lt-ltb _ _ c.if-out-count.true)

pub returns : goal.returns
unfolding positions_of positions first_of refused_or
returns c = rw (length-positions c.args.self, le-ltb _ _ c.if-out-count.false, c.write_rows.ensures)
