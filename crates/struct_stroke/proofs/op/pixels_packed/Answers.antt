-- `pixels_packed`: by what `normalize_packed` answers. Assumes nothing.
use Rattle.change_op.proofs.Normalizing.{pixels-in}
use Rattle.struct_stroke.proofs.op.pixels_packed.Goals as goal

pub returns : goal.returns
returns c list e q = pixels-in _ _ list _ (c.normalize_packed.ensures list e q) c.pixels_of.ensures
