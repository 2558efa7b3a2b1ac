-- `row`: the code is the definition. Assumes nothing.
use mathlib.Core.Path.{refl}
use Rattle.color_lab.specs.Convert.{row_of}
use Rattle.color_lab.proofs.convert.row.Goals as goal

pub returns : goal.returns
unfolding row_of
returns c = refl
