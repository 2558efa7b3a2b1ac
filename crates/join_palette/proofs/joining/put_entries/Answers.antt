-- `put_entries`: colours, LAB and marks, one after the other. Assumes nothing.
use mathlib.Core.Path.{ap, ◌∙◌}
use native.Mathlib.Omega.{arith}
use Rattle.base.specs.Lists.{over}
use Rattle.join_model.proofs.Bytes.{entered}
use Rattle.join_palette.proofs.Pieces.{joined-colours, joined-labs, joined-locks}
use Rattle.join_palette.proofs.joining.put_entries.Goals as goal

pub returns : goal.returns
returns c =
    let a = c.args in
    let b = c.requires.2 in
    entered _ _ _ _ _ _ _ _
    (c.put_joined.ensures
    ∙ ap (λ l. over l a.to_palette.now) (joined-colours a.k _ (omega arith) b a.palette.now a.palette2.now (omega arith) (omega arith)))
    (c.put_joined-2.ensures
    ∙ ap (λ l. over l a.to_lab.now) (joined-labs a.k _ (omega arith) b a.lab.now a.lab2.now (omega arith) (omega arith)))
    (c.put_joined-3.ensures
    ∙ ap (λ l. over l a.to_locks.now) (joined-locks a.k _ (omega arith) b a.locks.now a.locks2.now (omega arith) (omega arith)))
