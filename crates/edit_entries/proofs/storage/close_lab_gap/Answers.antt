-- `close_lab_gap`: the later entries moved down. Assumes nothing.
use mathlib.Core.Path.{◌∙◌}
use Prim.Native.Nat.{◌*◌}
use native.Mathlib.Omega.{arith}
use Rattle.edit_entries.proofs.Gaps.{copied-closed}
use Rattle.edit_entries.proofs.storage.close_lab_gap.Goals as goal

pub returns : goal.returns
returns c = let a = c.args in c.copy_within.ensures.after ∙ copied-closed 3 (3 * a.i) a.lab.now (3 * a.k) (omega arith)
