-- `nearest::nearer`: each branch is the definition's, by its test. Assumes nothing.
use Rattle.color_nearest.proofs.nearest.nearer.Goals as goal

pub returns-then-u-s : goal.returns-then-u-s
returns-then-u-s c = rw c.if-u-s.true

pub returns-else-u-s : goal.returns-else-u-s
returns-else-u-s c = rw c.if-u-s.false
