-- `is_dividing`: by the tests. Assumes nothing.
use Rattle.tile_mirror_checks.proofs.Touching.{no-side, across-not, across-then}
use borrow.Author.Rules.{rules}
use Rattle.tile_mirror_checks.proofs.is_dividing.Goals as goal

pub returns-then-t-eq0 : goal.returns-then-t-eq0
returns-then-t-eq0 c = no-side _ _ _ c.if-t-eq0.true

pub returns-then-w-t-eq0 : goal.returns-then-w-t-eq0
returns-then-w-t-eq0 c = across-then _ _ _ c.if-t-eq0.false c.if-w-t-eq0.true

pub returns-else-w-t-eq0 : goal.returns-else-w-t-eq0
returns-else-w-t-eq0 c = across-not _ _ _ c.if-t-eq0.false c.if-w-t-eq0.false
