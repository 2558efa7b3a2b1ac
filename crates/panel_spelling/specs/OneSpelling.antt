-- Change request E10, "One spelling of a sheet", over the definitions that the contracts of `spell` and `read_sheet` cite. Proved: proofs/EqualLines,
-- proofs/ReadBack, proofs/Canonical. Definitions only. Assumes nothing.
use Rattle.std.specs.Prelude.{◌≡◌, false, cond, List, [], ◌∷◌, ◌++◌, map, ℕ, ◌*◌, ◌-◌, ◌≤◌, ltb, leb, ℤ, Float, length, take}
use Rattle.base.specs.Answer.{size, leaving}
use Rattle.base.specs.Answer.Told.{result}
use Rattle.base.specs.Lists.{some, over}
use Rattle.sheet.specs.Sheet.{Sheet, sheet_of}
use Rattle.sheet.specs.Document.{labs_of}
use Rattle.panel_frames.specs.Opening.{colours_of}
use Rattle.panel_spell.specs.Spelling.{spelt, spell_of, Small}
use Rattle.panel_read.specs.ReadSheet.{bare, Read, reading, read_of}

-- "any well-formed sheet with sides up to 64"; its colours are bytes, as those that are lent are
pub record Spelled (s : Sheet) : Type 0 where
  pub small : Small s
  pub bytes : some (leb 256) (colours_of s) ≡ false

-- it gets its line where there is room
abbrev pub Written : Type 0
Written = (s : Sheet) → Small s → (text : List ℕ) → length (spelt s) ≤ length text → spell_of s text ≡ leaving (result (length (spelt s))) (over (spelt s) text)

-- "size, indices, palette count and colours are equal; LAB and lock marks are not written"
pub record Same (s t : Sheet) : Type 0 where
  pub w : s.w ≡ t.w
  pub h : s.h ≡ t.h
  pub k : s.k ≡ t.k
  pub indices : s.indices ≡ t.indices
  pub colours : colours_of s ≡ colours_of t

-- "Two sheets get equal lines exactly when .."
abbrev pub EqualLines : Type 0
EqualLines = (s t : Sheet) → Spelled s → Spelled t → (spelt s ≡ spelt t → Same s t) × (Same s t → spelt s ≡ spelt t)

-- "Reading the line gives those parts back", whatever the buffers held
abbrev pub ReadBack : Type 0
ReadBack =
    (s : Sheet) → Spelled s → (palette : List ℕ) (lab : List Float) (indices : List ℤ) → length palette ≡ 765 → length lab ≡ 765 → s.w * s.h ≤ length indices
    → read_of (spelt s) palette lab indices
    ≡ reading (result (size s.w s.h s.k)) (over (colours_of s) palette) (over (labs_of (colours_of s)) lab) (over s.indices indices)

-- a digit in upper case: a to f are 97 to 102
unfoldable pub upper_case : ℕ → ℕ
upper_case c = cond (ltb c 97) c (c - 32)

-- the sheet that a reading left in its buffers
abbrev pub sheet_left : ℕ → ℕ → ℕ → Read → Sheet
sheet_left w h k r = sheet_of w h k r.palette r.lab (take (w * h) r.indices)

-- it has a line, which is the line that was read, in upper case and with one newline
pub record Respells (line : List ℕ) (s : Sheet) : Type 0 where
  pub spelled : Spelled s
  pub again : spelt s ≡ map upper_case (bare line) ++ (10 ∷ [])

-- "any accepted opening line, read and written, comes out in this spelling"
abbrev pub Canonical : Type 0
Canonical =
    (line palette : List ℕ) (lab : List Float) (indices : List ℤ) (w h k : ℕ) → let r = read_of line palette lab indices in
    r.answer ≡ result (size w h k) → Respells line (sheet_left w h k r)
