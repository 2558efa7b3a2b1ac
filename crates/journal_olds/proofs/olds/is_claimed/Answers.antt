-- `is_claimed`: the test is the definition. Assumes nothing.
use Rattle.std.proofs.Common.{arith}
use Rattle.std.proofs.lemmas.Int.{ints}
use mir.Facts.{to_z-of_z}
use Rattle.journal_olds.specs.Claims.{claimed}
use Rattle.journal_olds.proofs.olds.is_claimed.Goals as goal

pub returns : goal.returns
unfolding claimed
returns c = grind (arith, ints, to_z-of_z)
