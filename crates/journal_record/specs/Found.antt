-- What the searches of a journal answer of a reading. Definitions only. Assumes nothing.
use Rattle.std.specs.Prelude.{ℕ, ◌+◌, ◌-◌, ◌*◌, cond, ◌&&◌, List, leb, eqb, length, get_or}
use Rattle.std.proofs.Math.Option.{none, some}
use Rattle.std.specs.Float.{binary64}
use Rattle.std.specs.Float.Ieee.{nan_bits}
use Rattle.base.specs.declared.Form.{Form}
use Rattle.base.specs.declared.Edit.{Edit}
use Rattle.base.specs.declared.Edit.TheVariants.{Pixels, PaletteSet, PaletteAdd, PaletteRemove, PaletteLock}
use Rattle.journal_record.specs.declared.Real.{Real}
use Rattle.journal_record.specs.declared.Real.TheVariants.{Number, NotANumber}
use Rattle.journal_record.specs.declared.Found.{Found}
use Rattle.journal_record.specs.declared.Found.TheVariants.{Record, Unsound}
use Rattle.journal_record.specs.Bytes.{le_at}
use Rattle.journal_record.specs.Record.{stride, is_mark, Reading, double_in, closed}

-- the double from `at` on, unless its bits are a NaN's
unfoldable pub real_of : List ℕ → ℕ → Real
real_of bytes at = cond (nan_bits binary64 (le_at 8 bytes at)) NotANumber (Number (double_in bytes at))

-- the kind of an edit, which is 1 to 5 in either form
unfoldable pub kind_of : Edit → ℕ
kind_of (Pixels tool) = 1
kind_of (PaletteSet i old new lab) = 2
kind_of (PaletteAdd c) = 3
kind_of (PaletteRemove i c lab) = 4
kind_of (PaletteLock i old new) = 5

-- a record that was read from `start` on, and one that was read before an offset
unfoldable pub found_at : ℕ → Reading → Found
found_at start none = Unsound
found_at start (some r) = Record (kind_of r.1) start r.0 (length r.2)

unfoldable pub found_before : ℕ → Reading → Found
found_before offset none = Unsound
found_before offset (some r) = Record (kind_of r.1) (offset - r.0) r.0 (length r.2)

-- the steps of a search: a record whose length is known, one whose count is yet to be read, a lock, and one that has to have n bytes
unfoldable pub closed_at : List ℕ → ℕ → ℕ → ℕ → ℕ → Found
closed_at bytes start kind n count = cond (closed bytes n) (Record kind start n count) Unsound

unfoldable pub counted_at : Form → List ℕ → ℕ → ℕ → ℕ → ℕ → Found
counted_at f bytes start kind fixed least =
    let count = le_at 4 bytes (fixed - 8) in
    cond (leb least count) (closed_at bytes start kind (fixed + stride f * count) count) Unsound

unfoldable pub locked_at : List ℕ → ℕ → Found
locked_at bytes start = cond (is_mark (get_or bytes 2 0) && is_mark (get_or bytes 3 0)) (closed_at bytes start 5 8 0) Unsound

unfoldable pub whole_only : ℕ → Found → Found
whole_only n (Record kind start whole count) = cond (eqb whole n) (Record kind start whole count) Unsound
whole_only n Unsound = Unsound
