-- `write::put_placed` meets its contract: the place, and then old and new, which are the number's upper half. Assumes nothing.
use native.Mathlib.Omega.{arith}
use Rattle.journal_write.proofs.Changes.{placed-bytes}
use Rattle.journal_write.proofs.write.put_placed.Goals as goal

pub returns : goal.returns
returns c =
    placed-bytes _ _ _ _ _ _ _ (omega (arith, c.requires)) c.low_place.ensures c.put_u24.ensures c.put_u32.ensures
