-- `close_mark_gap`: the later marks moved down. Assumes nothing.
use mathlib.Core.Path.{◌∙◌}
use native.Mathlib.Omega.{arith}
use Rattle.edit_entries.proofs.Gaps.{copied-closed}
use Rattle.edit_locks.proofs.moving.close_mark_gap.Goals as goal

pub returns : goal.returns
returns c = let a = c.args in c.copy_within.ensures.after ∙ copied-closed 1 a.i a.locks.now a.k (omega arith)
