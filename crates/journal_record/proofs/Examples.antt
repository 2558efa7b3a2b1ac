-- Document 01's example: "Add 10 20 30 (hexadecimal) in 8 bytes: 03 10 20 30 08 00 00 00"; a lock's record, and one with a mark that is none; a record in
-- places, and one that has the other form's kind. Assumes nothing.
use mathlib.Core.Path.{◌≡◌, refl}
use mathlib.Core.Bool.{true, false}
use mathlib.Core.List.{[], ◌∷◌, flat_map}
use mathlib.Core.Option.{none}
use lib.IntN.{pos, negsuc}
use Rattle.base.specs.declared.Form.TheVariants.{Coordinates, Places}
use Rattle.base.specs.declared.Edit.TheVariants.{Pixels, PaletteAdd, PaletteLock}
use Rattle.edit.specs.Change.{place}
use Rattle.journal_record.specs.Bytes.{le, unle, le_at}
use Rattle.journal_record.specs.Record.{change_bytes, list_bytes, body_of, record_length, record_of, by_kind, contents, agreed, read_forth, of_length, read_back}

pub add-in-8-bytes : record_of Coordinates 0 (PaletteAdd (record { r = 0x10; g = 0x20; b = 0x30 })) [] ≡ 0x03 ∷ 0x10 ∷ 0x20 ∷ 0x30 ∷ 0x08 ∷ 0x00 ∷ 0x00 ∷ 0x00 ∷ []
unfolding record_of body_of record_length le
add-in-8-bytes = refl

-- "changes of 8 (x, y, old, new)"
pub change-in-8-bytes : change_bytes Coordinates 0 (record { x = 1; y = 2; old = pos 3; new = negsuc 0 }) ≡ 1 ∷ 0 ∷ 2 ∷ 0 ∷ 3 ∷ 0 ∷ 255 ∷ 255 ∷ []
unfolding change_bytes le
change-in-8-bytes = refl

-- document 02: "kind 5, index, old mark, new mark, length, 8 bytes"
pub lock-in-8-bytes : record_of Coordinates 0 (PaletteLock 7 false true) [] ≡ 0x05 ∷ 0x07 ∷ 0x00 ∷ 0x01 ∷ 0x08 ∷ 0x00 ∷ 0x00 ∷ 0x00 ∷ []
unfolding record_of body_of record_length le
lock-in-8-bytes = refl

-- "a recorded mark other than 0 or 1": such bytes are no record from either end, whichever mark it is
pub old-mark-2 : read_back Coordinates 0 (0x05 ∷ 0x07 ∷ 0x02 ∷ 0x01 ∷ 0x08 ∷ 0x00 ∷ 0x00 ∷ 0x00 ∷ []) ≡ none
unfolding read_back of_length read_forth agreed contents by_kind le_at unle
old-mark-2 = refl

pub new-mark-2 : read_forth Coordinates 0 (0x05 ∷ 0x07 ∷ 0x00 ∷ 0x02 ∷ 0x08 ∷ 0x00 ∷ 0x00 ∷ 0x00 ∷ []) ≡ none
unfolding read_forth agreed contents by_kind le_at unle
new-mark-2 = refl

-- "place y × w + x in three bytes, then old and new in two each", on a sheet 300 wide; "kinds are 17 for pixels", "lengths 10+7n"
pub pixels-in-17-bytes : record_of Places 300 (Pixels 9) (record { x = 1; y = 2; old = pos 3; new = negsuc 0 } ∷ [])
    ≡ 0x11 ∷ 9 ∷ 1 ∷ 0 ∷ 0 ∷ 0 ∷ 0x59 ∷ 0x02 ∷ 0 ∷ 3 ∷ 0 ∷ 255 ∷ 255 ∷ 17 ∷ 0 ∷ 0 ∷ 0 ∷ []
unfolding record_of body_of record_length list_bytes flat_map change_bytes place le
pixels-in-17-bytes = refl

-- the same bytes with kind 1 are no record of that form
pub kind-1-in-places : read_forth Places 300 (0x01 ∷ 9 ∷ 1 ∷ 0 ∷ 0 ∷ 0 ∷ 0x59 ∷ 0x02 ∷ 0 ∷ 3 ∷ 0 ∷ 255 ∷ 255 ∷ 17 ∷ 0 ∷ 0 ∷ 0 ∷ []) ≡ none
unfolding read_forth agreed contents by_kind
kind-1-in-places = refl
