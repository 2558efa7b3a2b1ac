-- `nearest_root`: the guess where it is settled, else what the two corrections find. Assumes nothing.
use Rattle.color_root.proofs.cube_root.nearest_root.Goals as goal

pub returns-then-settled : goal.returns-then-settled
returns-then-settled c = c.settled.ensures c.if-settled.true
