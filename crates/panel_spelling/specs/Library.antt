-- A library of opening lines, each in its one spelling: what the keepers' program prints. Proved: proofs/Respelling. Definitions only. Assumes nothing.
use Rattle.std.specs.Prelude.{◌≡◌, List, [], ◌∷◌, ◌++◌, map, ℕ}
use Rattle.base.specs.Answer.{Told}
use Rattle.base.specs.Answer.Told.{result, alone}
use Rattle.sheet.specs.Sheet.{Sheet}
use Rattle.panel_frames.specs.Reading.{frame_of}
use Rattle.panel_frames.specs.Writing.{number_line}
use Rattle.panel_frames.specs.Opening.{sheet_in}
use Rattle.panel_spell.specs.Spelling.{spelt}
use Rattle.panel_spelling.specs.OneSpelling.{upper_case}

-- the line of a sheet, or the number alone, as `panel` prints it
unfoldable pub spelt_as : Told Sheet → List ℕ
spelt_as (result s) = spelt s
spelt_as (alone n) = number_line n

-- a line of the input, which has no newline: 22, 1, 2, or its spelling
unfoldable pub respelt : List ℕ → List ℕ
respelt line = spelt_as (sheet_in [] (frame_of line).frame (frame_of line).bytes)

-- all of them
unfoldable pub library_of : List (List ℕ) → List (List ℕ)
library_of lines = map respelt lines

-- an accepted line comes out in upper case, with its newline
abbrev pub OneCase : Type 0
OneCase = (line : List ℕ) (s : Sheet) → sheet_in [] (frame_of line).frame (frame_of line).bytes ≡ result s → respelt line ≡ map upper_case line ++ (10 ∷ [])
