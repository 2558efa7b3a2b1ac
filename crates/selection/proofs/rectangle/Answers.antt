-- `rectangle`: the spans fit 16 bits. Assumes nothing.
use mathlib.Core.Path.{refl}
use borrow.Author.Rules.{rules}
use Rattle.selection.specs.Selection.{rectangle}
use Rattle.selection.proofs.rectangle.Goals as goal

pub returns : goal.returns
unfolding rectangle
returns c = refl
