-- `undo_set`: the two stores. Assumes nothing.
use mathlib.Core.Path.{◌∙◌}
use native.Mathlib.Omega.{arith}
use Rattle.edit_entries.proofs.Entries.{lab-stored}
use Rattle.journal_undo.proofs.undo.undo_set.Goals as goal

pub returns : goal.returns
returns c =
    let index = c.entry_at-index.ensures.0 in
    record { palette_after = rw (← index, ← c.get_rgb.ensures) c.store_rgb.ensures; lab_after = rw (← index, ← c.lab_in.ensures) (c.put_lab.ensures ∙ lab-stored _ _ _ (omega arith)) }
