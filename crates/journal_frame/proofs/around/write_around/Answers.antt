-- `write_around`: by kinds. Assumes nothing.
use Rattle.journal_record.specs.Record.{record_length}
use Rattle.journal_frame.specs.Frame.{around, Framed}
use Rattle.journal_frame.proofs.around.write_around.Goals as goal

pub around_pixels-requires : goal.around_pixels-requires
unfolding record_length Framed
around_pixels-requires c = let h = rw c.in-Pixels.is at c.requires in record { n_in_bounds = h.n_in_bounds; n_bound = h.n_bound }

pub write_set-requires : goal.write_set-requires
unfolding record_length Framed
write_set-requires c = let h = rw c.in-PaletteSet.is at c.requires in record { in_bounds = h.n_in_bounds; index_bound = h.framed.0; numbers = h.framed.1 }

pub write_add-requires : goal.write_add-requires
unfolding record_length Framed
write_add-requires c = let h = rw c.in-PaletteAdd.is at c.requires in h.n_in_bounds

pub around_remove-requires : goal.around_remove-requires
unfolding record_length Framed
around_remove-requires c =
    let h = rw c.in-PaletteRemove.is at c.requires in
    record { n_in_bounds = h.n_in_bounds; n_bound = h.n_bound; index_bound = h.framed.0; numbers = h.framed.1 }

pub write_lock-requires : goal.write_lock-requires
unfolding record_length Framed
write_lock-requires c = let h = rw c.in-PaletteLock.is at c.requires in record { in_bounds = h.n_in_bounds; index_bound = h.framed }

pub returns-in-PaletteSet : goal.returns-in-PaletteSet
unfolding around
returns-in-PaletteSet c = rw c.in-PaletteSet.is (c.write_set.ensures _ 0)

pub returns-in-PaletteAdd : goal.returns-in-PaletteAdd
unfolding around
returns-in-PaletteAdd c = rw c.in-PaletteAdd.is (c.write_add.ensures _ 0)

pub returns-in-PaletteLock : goal.returns-in-PaletteLock
unfolding around
returns-in-PaletteLock c = rw c.in-PaletteLock.is (c.write_lock.ensures _ 0)
