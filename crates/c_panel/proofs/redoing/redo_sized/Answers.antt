-- `redo_sized`: taken apart, the core's redo, put back. Assumes nothing.
use mathlib.Core.Path.{refl}
use Rattle.c_panel.proofs.Settled.{taken, settles, redone-by}
use Rattle.c_panel.proofs.redoing.redo_sized.Goals as goal

pub returns : goal.returns
returns c =
    let held = taken _ c.requires.width c.requires.height c.requires.count c.requires.size c.take_sheet.ensures.palette_after c.take_sheet.ensures.lab_after c.take_sheet.ensures.indices_after c.take_sheet.ensures.locks_after in
    settles c.redo-moved.result (redone-by _ _ _ _ _ _ c.redo-moved.ensures.journal_after refl held) _ _ c.settle_sheet.ensures
