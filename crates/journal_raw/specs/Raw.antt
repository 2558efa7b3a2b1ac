-- A record as a conversion takes it: document 02, E9. Its kind, the bytes that both forms have alike, and its changes; old and new values, indices, colours,
-- LAB and the tool are not judged. Definitions only. Assumes nothing.
use Rattle.std.specs.Prelude.{ℕ, zero, suc, ◌+◌, ◌*◌, ◌<◌, Bool, length, take, drop}
use mathlib.Core.List.{List, [], ◌∷◌, ◌++◌, flat_map}
use Rattle.std.proofs.Math.Option.{Option, none, some}
use Rattle.base.specs.Lists as lists
use Rattle.base.specs.declared.Form.{Form}
use Rattle.base.specs.declared.Form.TheVariants.{Coordinates, Places}
use Rattle.edit.specs.Change.{Change, outside}
use Rattle.journal_record.specs.Bytes.{le}
use Rattle.journal_record.specs.Record.{change_bytes, stride, pixels_kind, remove_kind, by_kind, Reading, read_forth}
use Rattle.journal_record.specs.Found.{kind_of}

-- "from the old form to the new and back"
abbrev pub other : Form → Form
other Coordinates = Places
other Places = Coordinates

-- kind 1 to 5, as the old form numbers them; the head: what stands between the kind and the changes, the count of a list at its end, or between the kind and
-- the length
pub record Raw : Type 0 where
  pub kind : ℕ
  pub head : List ℕ
  pub changes : List Change

-- "tool 1, count 4", "index 1, old 3, new 3, old LAB 24", "colour 3", "index 1, colour 3, LAB 24, count 4", "index, old mark, new mark"
unfoldable pub head_length : ℕ → ℕ
head_length kind = by_kind Coordinates kind 5 31 3 32 3 0

-- "Its kinds are 17 for pixels and 20 for remove .. other kinds do not change"
unfoldable pub kind_byte : Form → ℕ → ℕ
kind_byte f kind = by_kind Coordinates kind (pixels_kind f) 2 3 (remove_kind f) 5 0

-- kind, head, changes and the length in four bytes
abbrev pub raw_length : Form → Raw → ℕ
raw_length f r = 1 + length r.head + stride f * length r.changes + 4

unfoldable pub raw_bytes : Form → ℕ → Raw → List ℕ
raw_bytes f w r = kind_byte f r.kind ∷ r.head ++ (flat_map (change_bytes f w) r.changes ++ le 4 (raw_length f r))

abbrev pub raws_bytes : Form → ℕ → List Raw → List ℕ
raws_bytes f w rs = flat_map (raw_bytes f w) rs

-- ---- the record that starts these bytes, and its length: none for "a wrong kind, mark, count or length"
unfoldable pub raw_of : List ℕ → Reading → Option (ℕ × Raw)
raw_of bytes none = none
raw_of bytes (some r) =
    let kind = kind_of r.1 in
    some (r.0, record { kind = kind; head = take (head_length kind) (drop 1 bytes); changes = r.2 })

unfoldable pub raw_in : Form → ℕ → List ℕ → Option (ℕ × Raw)
raw_in f w bytes = raw_of bytes (read_forth f w bytes)

-- n records, which are all that these bytes hold
unfoldable pub before : Raw → Option (List Raw) → Option (List Raw)
before r none = none
before r (some rs) = some (r ∷ rs)

unfoldable pub followed : List ℕ → Option (ℕ × Raw) → (List ℕ → Option (List Raw)) → Option (List Raw)
followed bytes none rest = none
followed bytes (some r) rest = before r.1 (rest (drop r.0 bytes))

unfoldable pub raws_in : Form → ℕ → ℕ → List ℕ → Option (List Raw)
raws_in f w zero [] = some []
raws_in f w zero (b ∷ bytes) = none
raws_in f w (suc n) bytes = followed bytes (raw_in f w bytes) (raws_in f w n)

-- "a place off the sheet"
unfoldable pub stray : ℕ → ℕ → Raw → Bool
stray w h r = lists.some (outside w h) r.changes

abbrev pub any_stray : ℕ → ℕ → List Raw → Bool
any_stray w h rs = lists.some (stray w h) rs

-- a journal as its type has it
abbrev pub AllBytes : List ℕ → Type 0
AllBytes bytes = lists.All (λ (b : ℕ). b < 256) bytes
