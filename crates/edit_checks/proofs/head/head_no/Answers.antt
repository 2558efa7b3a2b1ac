-- `head_no`: by kinds. Assumes nothing.
use mathlib.Core.Path.{refl}
use mathlib.Core.Bool.{false}
use mathlib.Core.List.{[]}
use Rattle.edit.specs.Checks.{head_checks}
use Rattle.edit.specs.Checks.{head_checks}
use Rattle.edit_checks.proofs.head.head_no.Goals as goal

pub returns-in-PaletteSet : goal.returns-in-PaletteSet
returns-in-PaletteSet c w h lab indices = rw c.in-PaletteSet.is (c.set_no.ensures w h lab indices _)

pub returns-in-PaletteAdd : goal.returns-in-PaletteAdd
unfolding head_checks
returns-in-PaletteAdd c w h lab indices = rw c.in-PaletteAdd.is (c.add_no.ensures w h [] lab indices [] false)

pub returns-in-PaletteRemove : goal.returns-in-PaletteRemove
returns-in-PaletteRemove c w h lab indices = rw c.in-PaletteRemove.is (c.entry_no.ensures w h lab indices _ _)

pub returns-in-PaletteLock : goal.returns-in-PaletteLock
returns-in-PaletteLock c w h lab indices = rw c.in-PaletteLock.is (c.lock_no.ensures _ _ _ refl)
