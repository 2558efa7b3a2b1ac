-- `is_off`: by forms; a place is compared with the pixels of the sheet. Assumes nothing.
use native.Mathlib.Omega.{arith}
use Rattle.edit.specs.Change.{unpacked, place}
use Rattle.journal_read.specs.Number.{change_of}
use Rattle.journal_read.proofs.Placed.{off_of}
use Rattle.journal_read.proofs.change.is_off.Goals as goal

pub place_of-requires : goal.place_of-requires
unfolding place unpacked
place_of-requires c = omega arith

pub returns-in-Coordinates : goal.returns-in-Coordinates
unfolding change_of
returns-in-Coordinates c = rw c.in-Coordinates.is c.is_outside.ensures

pub returns-in-Places : goal.returns-in-Places
returns-in-Places c = rw (c.in-Places.is, off_of, c.place_of.ensures)
