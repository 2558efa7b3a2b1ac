-- `diff::fill_shades`: the table has the numbers of the transparent index and of the first i entries. Assumes nothing.
use Rattle.sheet_diff.specs.Tables.{Shades}
use Rattle.sheet_diff.proofs.diff.fill_shades.Given as goal

abbrev pub invariant-loop-i : goal.invariant-loop-i
invariant-loop-i l = Shades l.i l.palette l.table
