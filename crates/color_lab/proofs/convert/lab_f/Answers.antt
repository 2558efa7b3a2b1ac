-- `lab_f`: the two quotients compute to the fractions, and above 216/24389 the ratio is in the root's range. Assumes nothing.
use mathlib.Core.Path.{sym, subst}
use lib.Dec.{T}
use lib.Ieee.{of_bits, round, div}
use Rattle.color_doubles.specs.Arithmetic.{decimal}
use Rattle.color_lab.specs.Convert.{lab_f}
use Rattle.color_lab.proofs.Range.{in-range, line_small}
use Rattle.color_lab.proofs.convert.lab_f.Goals as goal

pub root-requires : goal.root-requires
unfolding decimal round of_bits div
root-requires c = in-range _ c.requires (subst T (sym c.if-t.true) tt)

pub returns-then-t : goal.returns-then-t
unfolding lab_f decimal round of_bits div
returns-then-t c = record { value = rw c.if-t.true c.root.ensures.value; small = c.root.ensures.small }

pub returns-else-t : goal.returns-else-t
unfolding lab_f decimal round of_bits div
returns-else-t c = record { value = rw c.if-t.false; small = line_small _ c.requires }
