-- `change_at`: row and column are below 1,024. Assumes nothing.
use Prim.Native.Nat.{◌/◌, ◌%◌, ◌<◌}
use native.Mathlib.Nat.{mod-lt, div-lt_iff_lt-mul}
use native.Mathlib.Omega.{arith}
use Rattle.tool_fill_model.specs.Cells.{placed}
use borrow.Author.Rules.{rules}
use Rattle.tool_flood.proofs.scan.change_at.Goals as goal
use Rattle.tool_flood.proofs.scan.change_at.Goals.{Start}

row : (c : Start) → c.args.p / c.args.w < 1024
row c = (div-lt_iff_lt-mul c.requires.0).1 c.requires.2

column : (c : Start) → c.args.p % c.args.w < 1024
column c = omega (arith, mod-lt c.args.p c.requires.0, c.requires.1)

pub overflow_mul-result : goal.overflow_mul-result
overflow_mul-result c = record { fits = omega (arith, row c) }

pub overflow_add-result : goal.overflow_add-result
overflow_add-result c = record { fits = omega (arith, row c, column c) }

pub overflow_add-result-2 : goal.overflow_add-result-2
overflow_add-result-2 c = record { fits = omega (arith, row c, column c, c.requires.3, c.ranges.pair.fits) }

pub returns : goal.returns
unfolding placed
returns c = search rules
