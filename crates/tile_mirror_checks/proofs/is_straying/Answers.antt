-- `is_straying`: by the test. Assumes nothing.
use borrow.Author.Tests.{not-true, not-false}
use Rattle.tile_mirror_checks.proofs.Touching.{untouched, touched-then}
use borrow.Author.Rules.{rules}
use Rattle.tile_mirror_checks.proofs.is_straying.Goals as goal

pub returns-then-not-touched : goal.returns-then-not-touched
returns-then-not-touched c = untouched _ _ _ _ (c.if-not-touched.true)

pub returns : goal.returns
returns c = touched-then _ _ _ _ _ (c.if-not-touched.false) c.any_outside.ensures
