-- `finite::unfit_triple` meets its contract: the code is the definition. Assumes nothing.
use borrow.Author.Rules.{rules}
use Rattle.color_doubles.specs.Finite.{unfit_triple}
use Rattle.color_doubles.proofs.finite.unfit_triple.Goals as goal

pub returns : goal.returns
unfolding unfit_triple
returns c = cc
