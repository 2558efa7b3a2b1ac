-- `pixels_in`: by what `normalize_in` answers. Assumes nothing.
use Rattle.change_op.proofs.Normalizing.{pixels-in}
use Rattle.change_op.proofs.pixels_in.Goals as goal

pub returns-clause-in_scratch : goal.returns-clause-in_scratch
returns-clause-in_scratch c = pixels-in _ _ _ _ c.normalize_in.ensures.in_scratch c.pixels_of.ensures
