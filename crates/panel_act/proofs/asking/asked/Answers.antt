-- `asked`: the frame decides. Assumes nothing.
use Rattle.panel_model.specs.Acts.{Roomy}
use Rattle.panel_model.proofs.Asking.{asks-opening, asks-pixels, asks_set, asks-add, asks-merge, asks-undo, asks-redo, asks-mark, asks-malformed}
use Rattle.panel_act.proofs.asking.asked.Goals as goal

pub returns-in-Open : goal.returns-in-Open
returns-in-Open c = rw c.in-Open.is (asks-opening _ _ _ _ _)

pub returns-in-Pixels : goal.returns-in-Pixels
unfolding Roomy
returns-in-Pixels c =
    let frame = c.in-Pixels.is in
    rw frame (asks-pixels _ _ _ _ (rw frame at c.requires))

pub returns-in-Set : goal.returns-in-Set
returns-in-Set c = rw (c.in-Set.is, c.set_edit-edit.ensures) (asks_set _ _ _ _)

pub returns-in-Add : goal.returns-in-Add
returns-in-Add c = rw c.in-Add.is (asks-add _ _ _)

pub returns-in-Merge : goal.returns-in-Merge
unfolding Roomy
returns-in-Merge c =
    let frame = c.in-Merge.is in
    let merged = c.merge_entries-made in
    rw (frame, c.asked_by.ensures)
    (asks-merge _ _ _ _ (rw frame at c.requires) merged.result _ merged.ensures merged.auto.list)

pub returns-in-Undo : goal.returns-in-Undo
returns-in-Undo c = rw c.in-Undo.is (asks-undo _ _)

pub returns-in-Redo : goal.returns-in-Redo
returns-in-Redo c = rw c.in-Redo.is (asks-redo _ _)

pub returns-in-Mark : goal.returns-in-Mark
returns-in-Mark c = rw c.in-Mark.is (asks-mark _ _)

pub returns-in-Malformed : goal.returns-in-Malformed
returns-in-Malformed c = rw c.in-Malformed.is (asks-malformed _ _)
