-- The flat form of a sheet, of a handle and of a list of changes: document 02, E12. "The buffer has w, h, k in two
-- bytes each, 765 palette bytes, 765 doubles as eight-byte bits, then two bytes an index, all little-endian; locks
-- follow, one byte (0 or 1) for each of 255 entries." Definitions only. Assumes nothing.
use Rattle.std.specs.Prelude.{ℕ, ◌+◌, ◌*◌, ◌/◌, ◌%◌, Bool, not, cond, ◌||◌, List, [], ◌∷◌, ltb, eqb, ℤ, Float, length, get_or}
use Rattle.std.specs.Float.{binary64}
use Rattle.std.specs.Float.Ieee.{of_bits}
use Rattle.std.specs.Int.{w16}
use Rattle.std.proofs.Common.{of_z, to_z}
use Rattle.base.specs.Lists.{some}
use Rattle.base.specs.declared.Handle.{Handle}
use Rattle.color_doubles.specs.Finite.{unfit}
use Rattle.journal_record.specs.Bytes.{le, unle, le_at}
use Rattle.journal_record.specs.Record.{double_bytes, mark_byte}
use Rattle.c_form.specs.Fields.{read_from, write_from}

-- ---- where the parts stand: 6 + 765, 6 + 765 + 8 × 765, and the indices behind them
abbrev pub palette_from : ℕ
palette_from = 6

abbrev pub lab_from : ℕ
lab_from = 771

abbrev pub indices_from : ℕ
indices_from = 6891

abbrev pub locks_from : ℕ → ℕ
locks_from n = 6891 + 2 * n

abbrev pub flat_length : ℕ → ℕ
flat_length n = 7146 + 2 * n

-- ---- one number from its bytes, and over the bytes in its place
abbrev pub byte_in : List ℕ → ℕ
byte_in bytes = get_or bytes 0 0

abbrev pub byte_over : ℕ → List ℕ → List ℕ
byte_over v old = v ∷ []

abbrev pub double_from : List ℕ → Float
double_from bytes = of_bits binary64 (unle bytes)

-- a double that is not finite keeps its bytes: no used entry has one, and storage past the entries is left as it is, so
-- that these are its own bits, of a NaN too
unfoldable pub double_over : Float → List ℕ → List ℕ
double_over v old = cond (unfit v) old (double_bytes v)

abbrev pub index_in : List ℕ → ℤ
index_in bytes = to_z w16 (unle bytes)

abbrev pub index_over : ℤ → List ℕ → List ℕ
index_over z old = le 2 (of_z w16 z)

abbrev pub mark_in : List ℕ → Bool
mark_in bytes = eqb (get_or bytes 0 0) 1

abbrev pub mark_over : Bool → List ℕ → List ℕ
mark_over m old = mark_byte m ∷ []

abbrev pub pair_over : ℕ → List ℕ → List ℕ
pair_over v old = le 2 v

abbrev pub word_over : ℕ → List ℕ → List ℕ
word_over v old = le 8 v

-- ---- the sheet
abbrev pub width_in : List ℕ → ℕ
width_in b = le_at 2 b 0

abbrev pub height_in : List ℕ → ℕ
height_in b = le_at 2 b 2

abbrev pub count_in : List ℕ → ℕ
count_in b = le_at 2 b 4

abbrev pub places_in : List ℕ → ℕ
places_in b = width_in b * height_in b

abbrev pub palette_in : List ℕ → List ℕ
palette_in b = read_from 1 byte_in palette_from 765 b

abbrev pub lab_in : List ℕ → List Float
lab_in b = read_from 8 double_from lab_from 765 b

abbrev pub indices_in : List ℕ → List ℤ
indices_in b = read_from 2 index_in indices_from (places_in b) b

abbrev pub locks_in : List ℕ → List Bool
locks_in b = read_from 1 mark_in (locks_from (places_in b)) 255 b

-- "the buffer afterwards is the flat form of the core's sheet": its size stays
unfoldable pub sheet_over : ℕ → List ℕ → List Float → List ℤ → List Bool → List ℕ → List ℕ
sheet_over k palette lab indices locks b =
    write_from 1 mark_over (locks_from (length indices)) locks
    (write_from 2 index_over indices_from indices
    (write_from 8 double_over lab_from lab
    (write_from 1 byte_over palette_from palette
    (write_from 2 pair_over 4 (k ∷ []) b))))

-- ---- "The handle has a buffer of five eight-byte numbers in 01's order, no saved position being all ones"
unfoldable pub handle_in : List ℕ → Handle
handle_in b = record { offset = le_at 8 b 0; end = le_at 8 b 8; position = le_at 8 b 16; count = le_at 8 b 24; saved = le_at 8 b 32 }

unfoldable pub handle_over : Handle → List ℕ → List ℕ
handle_over h b = write_from 8 word_over 0 (h.offset ∷ h.end ∷ h.position ∷ h.count ∷ h.saved ∷ []) b

-- ---- "lists to 4,096 changes, eight bytes each as in a record"
unfoldable pub numbers_in : List ℕ → List ℕ
numbers_in bytes = read_from 8 unle 0 (length bytes / 8) bytes

-- ---- 28, of the buffers: "when the length does not suit w and h, the handle is not 40 bytes, .. or a lock byte .. is
-- neither 0 nor 1". A buffer that is too short for w and h has not the length of any sheet.
unfoldable pub handle_misfits : List ℕ → Bool
handle_misfits b = not (eqb (length b) 40)

unfoldable pub sheet_misfits : List ℕ → Bool
sheet_misfits b =
    not (eqb (length b) (flat_length (places_in b))) || some (ltb 1) (read_from 1 byte_in (locks_from (places_in b)) 255 b)

-- 28, of a list: "a list's length is not a multiple of eight"
abbrev pub list_misfits : List ℕ → Bool
list_misfits bytes = not (eqb (length bytes % 8) 0)
