-- What a line of `panel` is read as: document 01, "Program `panel`". "Two-byte numbers are little-endian." Definitions only. Assumes nothing.
use Rattle.std.specs.Prelude.{ℕ, zero, suc, ◌+◌, ◌*◌, ◌-◌, ◌/◌, ◌%◌, cond, List, [], ◌∷◌, map, ltb, eqb, ℤ, pos, negsuc, length, get_or, take, drop}
use Rattle.std.proofs.Math.Option.{Option, none, some}
use Rattle.std.specs.Int.{w16}
use Rattle.std.proofs.Common.{to_z}
use Rattle.edit.specs.Change.{Change}
use Rattle.journal_record.specs.Record.{rgb_in}
use Rattle.panel_hex.specs.Hex.{unhex_of}
use Rattle.panel_frames.specs.declared.Frame.{Frame}
use Rattle.panel_frames.specs.declared.Frame.TheVariants.{Open, Pixels, Set, Add, Merge, Undo, Redo, Mark, Malformed}

-- the two-byte number from i on
abbrev pub two : List ℕ → ℕ → ℕ
two bs i = get_or bs i 0 + 256 * get_or bs (i + 1) 0

-- ---- the frame that bytes are

-- "00 w(2) h(2) k, palette, indices"
unfoldable pub opening_of : List ℕ → Frame
opening_of bs =
    cond (ltb (length bs) 6) Malformed
    (cond (eqb (length bs) (6 + 3 * get_or bs 5 0 + two bs 1 * two bs 3)) (Open (two bs 1) (two bs 3) (get_or bs 5 0)) Malformed)

-- "01 tool, changes x(2) y(2) new(2)"
unfoldable pub pixels_of : List ℕ → Frame
pixels_of bs =
    cond (ltb (length bs) 2) Malformed
    (cond (eqb ((length bs - 2) % 6) 0) (Pixels (get_or bs 1 0) ((length bs - 2) / 6)) Malformed)

-- a frame of n bytes: "wrong .. length" is malformed
abbrev pub exact : List ℕ → ℕ → Frame → Frame
exact bs n f = cond (eqb (length bs) n) f Malformed

-- "02 index colour; 03 colour; 04 from into; 05 undo; 06 redo; 07 mark"; no length is right for another code, and "empty" is malformed
unfoldable pub class_of : List ℕ → Frame
class_of bs =
    cond (eqb (length bs) 0) Malformed
    (cond (eqb (get_or bs 0 0) 0) (opening_of bs)
    (cond (eqb (get_or bs 0 0) 1) (pixels_of bs)
    (cond (eqb (get_or bs 0 0) 2) (exact bs 5 (Set (get_or bs 1 0) (rgb_in bs 2)))
    (cond (eqb (get_or bs 0 0) 3) (exact bs 4 (Add (rgb_in bs 1)))
    (cond (eqb (get_or bs 0 0) 4) (exact bs 3 (Merge (get_or bs 1 0) (get_or bs 2 0)))
    (cond (eqb (get_or bs 0 0) 5) (exact bs 1 Undo)
    (cond (eqb (get_or bs 0 0) 6) (exact bs 1 Redo)
    (cond (eqb (get_or bs 0 0) 7) (exact bs 1 Mark) Malformed))))))))

-- how many bytes a frame has
unfoldable pub size_of : Frame → ℕ
size_of (Open w h k) = 6 + 3 * k + w * h
size_of (Pixels tool n) = 2 + 6 * n
size_of (Set i c) = 5
size_of (Add c) = 4
size_of (Merge from into) = 3
size_of Undo = 1
size_of Redo = 1
size_of Mark = 1
size_of Malformed = 0

-- ---- the frame that a line is

-- a frame, and its bytes
pub record Told : Type 0 where
  pub frame : Frame
  pub bytes : List ℕ

-- the bytes stand at the front of a list
abbrev pub told : Frame → List ℕ → Told
told f l = record { frame = f; bytes = take (size_of f) l }

unfoldable pub told_of : Option (List ℕ) → Told
told_of none = told Malformed []
told_of (some bs) = told (class_of bs) bs

-- "one frame a line, at most 16,384 digits"
abbrev pub max_digits : ℕ
max_digits = 16384

unfoldable pub frame_of : List ℕ → Told
frame_of line = cond (ltb max_digits (length line)) (told Malformed []) (told_of (unhex_of line))

-- ---- what the bytes of a frame carry

-- "indices (FF is -1)"
unfoldable pub index_of : ℕ → ℤ
index_of b = cond (eqb b 255) (negsuc 0) (pos b)

-- an opening's palette and indices
abbrev pub palette_in : ℕ → List ℕ → List ℕ
palette_in k bs = take (3 * k) (drop 6 bs)

abbrev pub indices_in : ℕ → ℕ → ℕ → List ℕ → List ℤ
indices_in w h k bs = map index_of (take (w * h) (drop (6 + 3 * k) bs))

-- "changes x(2) y(2) new(2)": push does not look at the old
unfoldable pub change_at : List ℕ → ℕ → Change
change_at bs i = record { x = two bs i; y = two bs (i + 2); old = pos 0; new = to_z w16 (two bs (i + 4)) }

-- n changes from i on
unfoldable pub changes_from : List ℕ → ℕ → ℕ → List Change
changes_from bs i zero = []
changes_from bs i (suc n) = change_at bs i ∷ changes_from bs (i + 6) n
