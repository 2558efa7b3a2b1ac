-- `claim`: by the test. Assumes nothing.
use Rattle.std.proofs.Common.{arith}
use Rattle.std.proofs.lemmas.Int.{ints}
use mir.Facts.{to_z-of_z}
use Rattle.journal_olds.specs.Claims.{claimed, claim_of}
use Rattle.journal_olds.proofs.olds.claim.Goals as goal

pub returns-then-z-ge-CLAIMED : goal.returns-then-z-ge-CLAIMED
unfolding claim_of claimed
returns-then-z-ge-CLAIMED c = grind (arith, ints, to_z-of_z)

pub returns-else-z-ge-CLAIMED : goal.returns-else-z-ge-CLAIMED
unfolding claim_of claimed
returns-else-z-ge-CLAIMED c = grind (arith, ints, to_z-of_z)
