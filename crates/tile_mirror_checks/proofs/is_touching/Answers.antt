-- `is_touching`: by the tests. Assumes nothing.
use borrow.Author.Tests.{not-true, not-false}
use Rattle.tile_mirror_checks.proofs.Touching.{off-not, empty-not, else-divides}
use borrow.Author.Rules.{rules}
use Rattle.tile_mirror_checks.proofs.is_touching.Goals as goal

pub returns-then-not-on : goal.returns-then-not-on
returns-then-not-on c = off-not _ _ _ _ _ (c.if-not-on.true)

pub returns-then-count-eq0 : goal.returns-then-count-eq0
returns-then-count-eq0 c = empty-not _ _ _ _ _ (c.if-not-on.false) c.if-count-eq0.true

pub returns : goal.returns
returns c = else-divides _ _ _ _ _ _ (c.if-not-on.false) c.if-count-eq0.false c.is_dividing.ensures
