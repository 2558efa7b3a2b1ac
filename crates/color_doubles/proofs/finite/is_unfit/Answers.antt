-- `finite::is_unfit` meets its contract: by the law of a number's difference from itself. Assumes nothing.
use Rattle.color_doubles.proofs.OwnDifference.{own-difference}
use Rattle.color_doubles.proofs.finite.is_unfit.Goals as goal

pub returns : goal.returns
returns c = own-difference _
