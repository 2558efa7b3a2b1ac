-- Change request E10, "Reading the line gives those parts back": a line read as `panel` reads an opening. Definitions only. Assumes nothing.
use Rattle.std.specs.Prelude.{◌≡◌, not, cond, List, [], ◌∷◌, ℕ, ◌*◌, ◌-◌, ◌≤◌, ltb, eqb, ℤ, Float, length, get_or, take}
use Rattle.base.specs.Limits.{storage}
use Rattle.base.specs.Numbers.{bad_sheet, no_space}
use Rattle.base.specs.Checks.{Check, ◌when◌, first_of, checked}
use Rattle.base.specs.declared.Opened.{Opened}
use Rattle.base.specs.Answer.{Told, Size, size, opened_told}
use Rattle.base.specs.Answer.Told.{result, alone}
use Rattle.base.specs.Lists.{over}
use Rattle.sheet.specs.Sheet.{Sheet}
use Rattle.sheet.specs.Document.{labs_of}
use Rattle.panel_frames.specs.Reading.{frame_of}
use Rattle.panel_frames.specs.Opening.{colours_of, open_sheet, open_checks, sheet_in}

-- "the last newline may lack": a line without it
unfoldable pub bare : List ℕ → List ℕ
bare line = cond (eqb (get_or line (length line - 1) 0) 10) (take (length line - 1) line) line

-- 1: "Palette storage is 765 bytes, LAB storage 765 doubles", of what is lent
unfoldable pub storage_checks : List ℕ → List Float → List Check
storage_checks palette lab = bad_sheet when not (eqb (length palette) storage) ∷ bad_sheet when not (eqb (length lab) storage) ∷ []

-- what `read_sheet` leaves: its answer, and the buffers
pub record Read : Type 0 where
  pub answer : Told Size
  pub palette : List ℕ
  pub lab : List Float
  pub indices : List ℤ

abbrev pub reading : Told Size → List ℕ → List Float → List ℤ → Read
reading told palette lab indices = record { answer = told; palette = palette; lab = lab; indices = indices }

abbrev pub read_made : Opened → List ℕ → List Float → List ℤ → Read
read_made a palette lab indices = reading (opened_told a) palette lab indices

-- 16, or the parts of the sheet at the front of the buffers: its colours, their LAB, its indices
unfoldable pub taken_of : Told Sheet → List ℕ → List Float → List ℤ → Read
taken_of (result s) palette lab indices =
    checked (no_space when ltb (length indices) (s.w * s.h) ∷ [])
    (λ n. reading (alone n) palette lab indices)
    (reading (result (size s.w s.h s.k)) (over (colours_of s) palette) (over (labs_of (colours_of s)) lab) (over s.indices indices))
taken_of (alone n) palette lab indices = reading (alone n) palette lab indices

-- a line that has no newline: 22, 1, 2, 16
unfoldable pub line_read : List ℕ → List ℕ → List Float → List ℤ → Read
line_read line palette lab indices =
    taken_of (sheet_in (storage_checks palette lab) (frame_of line).frame (frame_of line).bytes) palette lab indices

-- ---- `read_sheet`
unfoldable pub read_of : List ℕ → List ℕ → List Float → List ℤ → Read
read_of line palette lab indices = line_read (bare line) palette lab indices

-- the number of the first of 1 and 2 that applies to an opening, and what 0 means
pub record Openable (w h k : ℕ) (bs palette : List ℕ) (lab : List Float) (n : ℕ) : Type 0 where
  pub value : n ≡ first_of (open_checks (storage_checks palette lab) (open_sheet w h k bs))
  pub narrow : n ≡ 0 → w ≤ 64
  pub low : n ≡ 0 → h ≤ 64
  pub few : n ≡ 0 → k ≤ 255
  pub palette-long : n ≡ 0 → length palette ≡ 765
  pub lab-long : n ≡ 0 → length lab ≡ 765
