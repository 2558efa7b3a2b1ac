-- `finish`: with the copies, or as it is. Assumes nothing.
use Rattle.tile_mirror.proofs.Ending.{handed-mirrored, handed-untouched}
use Rattle.change_list.proofs.Fronts.{front-within}
use borrow.Author.Rules.{rules}
use Rattle.tile_mirror.proofs.finish.Goals as goal

pub mirror_in-n-requires : goal.mirror_in-n-requires
mirror_in-n-requires c = (c.requires.mirrorable c.if-touched.true, c.requires.space)

pub hand_out-requires : goal.hand_out-requires
hand_out-requires c = front-within c.mirror_in-n.ensures

pub returns-then-touched : goal.returns-then-touched
returns-then-touched c = handed-mirrored _ _ _ _ _ _ _ _ c.if-touched.true c.mirror_in-n.ensures c.hand_out.ensures

pub returns : goal.returns
returns c = handed-untouched _ _ _ _ _ _ _ _ c.if-touched.false c.hand_out-2.ensures
