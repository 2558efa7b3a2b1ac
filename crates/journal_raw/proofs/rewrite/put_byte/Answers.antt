-- `rewrite::put_byte`: one store. Assumes nothing.
use native.Mathlib.Omega.{arith}
use Rattle.journal_raw.proofs.Rewriting.{set-put}
use Rattle.journal_raw.proofs.rewrite.put_byte.Goals as goal

pub returns : goal.returns
returns c = set-put _ _ _ (omega arith)
