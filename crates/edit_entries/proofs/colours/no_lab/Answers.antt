-- `no_lab`: the literals are the definition's. Assumes nothing.
use mathlib.Core.Path.{refl}
use lib.Ieee.{round, of_bits}
use Rattle.color_doubles.specs.Arithmetic.{decimal}
use Rattle.edit_entries.specs.Unfilled.{no_lab}
use Rattle.edit_entries.proofs.colours.no_lab.Goals as goal

pub returns : goal.returns
unfolding no_lab decimal round of_bits
returns c = refl
