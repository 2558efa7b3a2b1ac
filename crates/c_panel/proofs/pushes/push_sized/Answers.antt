-- `push_sized`: taken apart, the core's push, put back. Assumes nothing.
use mathlib.Core.Path.{refl}
use Rattle.c_panel.proofs.Settled.{taken, settles, pushed-by}
use Rattle.c_panel.proofs.pushes.push_sized.Goals as goal

pub returns : goal.returns
returns c =
    let held = taken _ c.requires.width c.requires.height c.requires.count c.requires.size c.take_sheet.ensures.palette_after c.take_sheet.ensures.lab_after c.take_sheet.ensures.indices_after c.take_sheet.ensures.locks_after in
    settles c.push-moved.result (pushed-by _ _ _ _ _ _ _ c.push-moved.ensures.journal_after refl held) _ _ c.settle_sheet.ensures
