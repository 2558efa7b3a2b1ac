-- The records of the journal: document 01, "Journal". "Integers little-endian, kind first, whole length (4 bytes) last"; the fifth kind is document 02's, E5,
-- and so is the second form, E9: there a change is told by its place on a sheet of width w. Definitions only. Assumes nothing.
use Rattle.std.specs.Prelude.{ℕ, zero, suc, ◌+◌, ◌-◌, ◌*◌, ◌/◌, ◌%◌, Bool, true, false, ◌&&◌, cond, leb, eqb, Float, length, get_or, drop}
use mathlib.Core.List.{List, [], ◌∷◌, ◌++◌, flat_map}
use Rattle.std.proofs.Math.Option.{Option, none, some}
use Rattle.std.specs.Float.{binary64}
use Rattle.std.specs.Float.Ieee.{to_bits, of_bits}
use Rattle.std.specs.Int.{w16}
use Rattle.std.proofs.Common.{of_z, to_z}
use Rattle.base.specs.declared.Form.{Form}
use Rattle.base.specs.declared.Form.TheVariants.{Coordinates, Places}
use Rattle.base.specs.declared.Rgb.{Rgb}
use Rattle.base.specs.declared.Lab.{Lab}
use Rattle.base.specs.declared.Edit.{Edit}
use Rattle.base.specs.declared.Edit.TheVariants.{Pixels, PaletteSet, PaletteAdd, PaletteRemove, PaletteLock}
use Rattle.edit.specs.Change.{Change, unpacked, place}
use Rattle.edit.specs.Storage.{bytes_of}
use Rattle.journal_record.specs.Bytes.{le, le_at}

-- ---- the bytes of a record

-- "changes of 8 (x, y, old, new)"; "a change as place y × w + x in three bytes, then old and new in two each"
unfoldable pub change_bytes : Form → ℕ → Change → List ℕ
change_bytes Coordinates w c = le 2 c.x ++ (le 2 c.y ++ (le 2 (of_z w16 c.old) ++ le 2 (of_z w16 c.new)))
change_bytes Places w c = le 3 (place w c) ++ (le 2 (of_z w16 c.old) ++ le 2 (of_z w16 c.new))

-- how many bytes that are
abbrev pub stride : Form → ℕ
stride Coordinates = 8
stride Places = 7

-- "Its kinds are 17 for pixels and 20 for remove"; "other kinds do not change"
abbrev pub pixels_kind : Form → ℕ
pixels_kind Coordinates = 1
pixels_kind Places = 17

abbrev pub remove_kind : Form → ℕ
remove_kind Coordinates = 4
remove_kind Places = 20

-- "LAB 24": each double by its bits
abbrev pub double_bytes : Float → List ℕ
double_bytes v = le 8 (to_bits binary64 v)

unfoldable pub lab_bytes : Lab → List ℕ
lab_bytes x = double_bytes x.l ++ (double_bytes x.a ++ double_bytes x.b)

-- "count 4, changes"
unfoldable pub list_bytes : Form → ℕ → List Change → List ℕ
list_bytes f w cs = le 4 (length cs) ++ flat_map (change_bytes f w) cs

-- a lock mark: "0 or 1"
abbrev pub mark_byte : Bool → ℕ
mark_byte true = 1
mark_byte false = 0

-- "1 pixels: tool 1, count 4, changes", "2 set: index 1, old 3, new 3, old LAB 24", "3 add: colour 3", "4 remove: index 1, colour 3, LAB 24, count 4,
-- changes", "kind 5, index, old mark, new mark": all but the length
unfoldable pub body_of : Form → ℕ → Edit → List Change → List ℕ
body_of f w (Pixels tool) cs = pixels_kind f ∷ tool ∷ list_bytes f w cs
body_of f w (PaletteSet i old new lab) cs = 2 ∷ i ∷ bytes_of old ++ (bytes_of new ++ lab_bytes lab)
body_of f w (PaletteAdd c) cs = 3 ∷ bytes_of c
body_of f w (PaletteRemove i c lab) cs = remove_kind f ∷ i ∷ bytes_of c ++ (lab_bytes lab ++ list_bytes f w cs)
body_of f w (PaletteLock i old new) cs = 5 ∷ i ∷ mark_byte old ∷ mark_byte new ∷ []

-- "10+8n bytes", "36", "8", "37+8n", "8 bytes"; "lengths 10+7n and 37+7n"
unfoldable pub record_length : Form → Edit → ℕ → ℕ
record_length f (Pixels tool) n = 10 + stride f * n
record_length f (PaletteSet i old new lab) n = 36
record_length f (PaletteAdd c) n = 8
record_length f (PaletteRemove i c lab) n = 37 + stride f * n
record_length f (PaletteLock i old new) n = 8

unfoldable pub record_of : Form → ℕ → Edit → List Change → List ℕ
record_of f w e cs = body_of f w e cs ++ le 4 (record_length f e (length cs))

-- ---- what bytes hold from a place on

unfoldable pub rgb_in : List ℕ → ℕ → Rgb
rgb_in bytes at = record { r = get_or bytes at 0; g = get_or bytes (at + 1) 0; b = get_or bytes (at + 2) 0 }

unfoldable pub double_in : List ℕ → ℕ → Float
double_in bytes at = of_bits binary64 (le_at 8 bytes at)

unfoldable pub lab_in : List ℕ → ℕ → Lab
lab_in bytes at = record { l = double_in bytes at; a = double_in bytes (at + 8); b = double_in bytes (at + 16) }

-- whether a byte is a lock mark, and the mark that it is
abbrev pub is_mark : ℕ → Bool
is_mark b = leb b 1

abbrev pub mark_in : List ℕ → ℕ → Bool
mark_in bytes at = eqb (get_or bytes at 0) 1

-- index, old mark, new mark
abbrev pub lock_in : List ℕ → ℕ → Edit
lock_in bytes at = PaletteLock (get_or bytes at 0) (mark_in bytes (at + 1)) (mark_in bytes (at + 2))

-- a change: the column and the row of its place are those on a sheet of width w, whatever row that is
unfoldable pub change_in : Form → ℕ → List ℕ → ℕ → Change
change_in Coordinates w bytes at = unpacked (le_at 8 bytes at)
change_in Places w bytes at =
    let p = le_at 3 bytes at in
    record { x = p % w; y = p / w; old = to_z w16 (le_at 2 bytes (at + 3)); new = to_z w16 (le_at 2 bytes (at + 5)) }

-- n changes
unfoldable pub changes_in : Form → ℕ → List ℕ → ℕ → ℕ → List Change
changes_in f w bytes at zero = []
changes_in f w bytes at (suc n) = change_in f w bytes at ∷ changes_in f w bytes (at + stride f) n

-- ---- the record that starts these bytes

-- a record that was read: its length, and what it holds
abbrev pub Reading : Type 0
Reading = Option (ℕ × Edit × List Change)

-- the five kinds of a form, and any other
unfoldable pub by_kind : {R : Type 0} → Form → ℕ → R → R → R → R → R → R → R
by_kind f kind pixels set add remove lock other =
    cond (eqb kind (pixels_kind f)) pixels (cond (eqb kind 2) set (cond (eqb kind 3) add (cond (eqb kind (remove_kind f)) remove (cond (eqb kind 5) lock other))))

-- what kind, counts and marks say that it holds: nothing where the kind is another, "pixels ≥ 1", and "a recorded mark other than 0 or 1 gets 4"
unfoldable pub contents : Form → ℕ → List ℕ → Option (Edit × List Change)
contents f w bytes =
    by_kind f (get_or bytes 0 0)
    (cond (leb 1 (le_at 4 bytes 2)) (some (Pixels (get_or bytes 1 0), changes_in f w bytes 6 (le_at 4 bytes 2))) none)
    (some (PaletteSet (get_or bytes 1 0) (rgb_in bytes 2) (rgb_in bytes 5) (lab_in bytes 8), []))
    (some (PaletteAdd (rgb_in bytes 1), []))
    (some (PaletteRemove (get_or bytes 1 0) (rgb_in bytes 2) (lab_in bytes 5), changes_in f w bytes 33 (le_at 4 bytes 29)))
    (cond (is_mark (get_or bytes 2 0) && is_mark (get_or bytes 3 0)) (some (lock_in bytes 1, [])) none)
    none

-- a record of n bytes lies in these, and its last four are its length
unfoldable pub closed : List ℕ → ℕ → Bool
closed bytes n = leb n (length bytes) && eqb (le_at 4 bytes (n - 4)) n

-- "its kind, counts (pixels ≥ 1) and lengths agree"
unfoldable pub agreed : Form → List ℕ → Option (Edit × List Change) → Reading
agreed f bytes none = none
agreed f bytes (some held) =
    let n = record_length f held.0 (length held.1) in
    cond (closed bytes n) (some (n, held.0, held.1)) none

unfoldable pub read_forth : Form → ℕ → List ℕ → Reading
read_forth f w bytes = agreed f bytes (contents f w bytes)

-- ---- the record that ends these bytes: their last four are its length

unfoldable pub of_length : ℕ → Reading → Reading
of_length n none = none
of_length n (some r) = cond (eqb r.0 n) (some r) none

unfoldable pub read_back : Form → ℕ → List ℕ → Reading
read_back f w bytes =
    let n = le_at 4 bytes (length bytes - 4) in
    cond (leb n (length bytes)) (of_length n (read_forth f w (drop (length bytes - n) bytes))) none
