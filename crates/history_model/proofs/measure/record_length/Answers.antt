-- `record_length`: by kinds. Assumes nothing.
use borrow.Author.Rules.{rules}
use native.Mathlib.Omega.{arith}
use Rattle.journal_record.specs.Record.{record_length}
use Rattle.journal_record.proofs.Strides.{stride_most}
use Rattle.history_model.proofs.measure.record_length.Goals as goal

pub list_bytes-requires : goal.list_bytes-requires
list_bytes-requires c = omega (arith, stride_most c.args.form c.args.n)

pub list_bytes-requires-in-PaletteRemove : goal.list_bytes-requires-in-PaletteRemove
list_bytes-requires-in-PaletteRemove c = omega (arith, stride_most c.args.form c.args.n)

pub returns-in-Pixels : goal.returns-in-Pixels
unfolding record_length
returns-in-Pixels c = rw (c.in-Pixels.is, c.list_bytes.ensures.0)

pub returns-in-PaletteSet : goal.returns-in-PaletteSet
unfolding record_length
returns-in-PaletteSet c = rw c.in-PaletteSet.is

pub returns-in-PaletteAdd : goal.returns-in-PaletteAdd
unfolding record_length
returns-in-PaletteAdd c = rw c.in-PaletteAdd.is

pub returns-in-PaletteRemove : goal.returns-in-PaletteRemove
unfolding record_length
returns-in-PaletteRemove c = rw (c.in-PaletteRemove.is, c.list_bytes-in-PaletteRemove.ensures.0)

pub returns-in-PaletteLock : goal.returns-in-PaletteLock
unfolding record_length
returns-in-PaletteLock c = rw c.in-PaletteLock.is
