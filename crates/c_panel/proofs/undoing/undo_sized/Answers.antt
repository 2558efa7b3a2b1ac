-- `undo_sized`: taken apart, the core's undo, put back. Assumes nothing.
use Rattle.c_panel.proofs.Settled.{taken, settles, undone-by}
use Rattle.c_panel.proofs.undoing.undo_sized.Goals as goal

pub returns : goal.returns
returns c =
    let held = taken _ c.requires.width c.requires.height c.requires.count c.requires.size c.take_sheet.ensures.palette_after c.take_sheet.ensures.lab_after c.take_sheet.ensures.indices_after c.take_sheet.ensures.locks_after in
    settles c.undo-moved.result (undone-by _ _ _ _ _ c.undo-moved.ensures held) _ _ c.settle_sheet.ensures
