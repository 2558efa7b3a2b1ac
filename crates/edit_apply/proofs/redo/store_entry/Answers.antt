-- `store_entry`: two stores. Assumes nothing.
use mathlib.Core.Path.{◌∙◌}
use native.Mathlib.Omega.{arith}
use Rattle.edit_entries.proofs.Entries.{lab-stored}
use Rattle.edit_apply.proofs.redo.store_entry.Goals as goal

pub returns-clause-lab_after : goal.returns-clause-lab_after
returns-clause-lab_after c = rw c.lab_by.ensures.value at (c.put_lab.ensures ∙ lab-stored _ _ _ (omega arith))
