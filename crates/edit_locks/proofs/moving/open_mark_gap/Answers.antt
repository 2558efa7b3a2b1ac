-- `open_mark_gap`: the later marks moved up, and the entry's stored. Assumes nothing.
use mathlib.Core.Path.{◌∙◌}
use native.Mathlib.Omega.{arith}
use Rattle.edit_entries.proofs.Entries.{stored-opened, whole}
use Rattle.edit_entries.proofs.Gaps.{copied-opened}
use Rattle.edit_locks.proofs.moving.open_mark_gap.Goals as goal

pub returns : goal.returns
returns c =
    let a = c.args in
    let l = a.locks.now in
    c.put_mark.ensures ∙ stored-opened 1 l _ _ _ a.i a.k (omega arith) (whole l a.i 1 (omega arith)) (c.copy_within.ensures.after ∙ copied-opened 1 a.i l a.k (omega arith))
