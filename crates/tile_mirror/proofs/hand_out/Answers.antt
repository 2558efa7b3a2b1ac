-- `hand_out`: by the test. Assumes nothing.
use Rattle.change_list.proofs.Handing.{handed-full, handed-done}
use borrow.Author.Rules.{rules}
use Rattle.tile_mirror.proofs.hand_out.Goals as goal

pub returns-then-out-n : goal.returns-then-out-n
returns-then-out-n c = handed-full _ _ _ c.requires c.if-out-n.true

pub returns : goal.returns
returns c = handed-done _ _ _ c.requires c.if-out-n.false c.copy_out.ensures
