-- `open_palette_gap`: the later entries moved up, and the entry stored. Assumes nothing.
use mathlib.Core.Path.{◌∙◌}
use Prim.Native.Nat.{◌*◌}
use native.Mathlib.Omega.{arith}
use Rattle.edit_entries.proofs.Entries.{stored-opened, whole}
use Rattle.edit_entries.proofs.Gaps.{copied-opened}
use Rattle.edit_entries.proofs.storage.open_palette_gap.Goals as goal

pub returns : goal.returns
returns c =
    let a = c.args in
    let l = a.palette.now in
    c.store_rgb.ensures
    ∙ stored-opened 3 l _ _ _ (3 * a.i) (3 * a.k) (omega arith) (whole l (3 * a.i) 3 (omega arith)) (c.copy_within.ensures.after ∙ copied-opened 3 (3 * a.i) l (3 * a.k) (omega arith))
