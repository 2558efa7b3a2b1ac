-- A change of a record, read as one number of 64 bits. In coordinates that is the change's own; in places its column and row are those of its place in rows
-- of 65,536, so that no place is divided by the sheet's width to be read. Definitions only. Assumes nothing.
use Rattle.std.specs.Prelude.{ℕ, ◌/◌, ◌%◌, ◌^◌}
use Rattle.base.specs.declared.Form.{Form}
use Rattle.base.specs.declared.Form.TheVariants.{Coordinates, Places}
use Rattle.edit.specs.Change.{Change, unpacked, place}

-- the change that a number is, on a sheet of width w
unfoldable pub change_of : Form → ℕ → ℕ → Change
change_of Coordinates w c = unpacked c
change_of Places w c =
    let p = place (2 ^ 16) (unpacked c) in
    record { x = p % w; y = p / w; old = (unpacked c).old; new = (unpacked c).new }

-- how wide the rows are in which its column and row tell its place
abbrev pub row_width : Form → ℕ → ℕ
row_width Coordinates w = w
row_width Places w = 2 ^ 16
