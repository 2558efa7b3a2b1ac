-- `release`: by the test. Assumes nothing.
use Rattle.std.proofs.Common.{arith}
use Rattle.std.proofs.lemmas.Int.{ints}
use mir.Facts.{to_z-of_z}
use Rattle.journal_olds.specs.Claims.{claimed, release_of}
use Rattle.journal_olds.proofs.olds.release.Goals as goal

pub returns-then-z-ge-CLAIMED : goal.returns-then-z-ge-CLAIMED
unfolding release_of claimed
returns-then-z-ge-CLAIMED c = grind (arith, ints, to_z-of_z)

pub returns-else-z-ge-CLAIMED : goal.returns-else-z-ge-CLAIMED
unfolding release_of claimed
returns-else-z-ge-CLAIMED c = grind (arith, ints, to_z-of_z)
