-- `write::put_lab` meets its contract: three doubles one behind the other. Assumes nothing.
use native.Mathlib.Omega.{arith}
use Rattle.journal_write.proofs.Written.{lab-written}
use Rattle.journal_write.proofs.write.put_lab.Goals as goal

pub returns : goal.returns
returns c =
    lab-written _ _ _ _ _ _ (omega (arith, c.requires.at_in_bounds)) c.put_f64.ensures c.put_f64-2.ensures c.put_f64-3.ensures
