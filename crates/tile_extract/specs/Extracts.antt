-- `extract` of tiles.rs at tolerance 0 as a call: its checks, in document 01's order, and its answer. Definitions only. Assumes nothing.
use Rattle.std.specs.Prelude.{ℕ, ◌*◌, ◌%◌, not, List, [], ◌∷◌, ◌++◌, ltb, eqb, ℤ, length}
use Rattle.base.specs.Numbers.{no_space, bad_clip}
use Rattle.base.specs.Checks.{Check, ◌when◌, checked}
use Rattle.base.specs.Lists.{over}
use Rattle.sheet.specs.Sheet.{Sheet}
use Rattle.sheet.specs.Checks.{sheet_checks}
use Rattle.tile_cells.specs.Extract.{extract_of, tiles_of, map_of}
use Rattle.base.specs.declared.Extraction.{Extraction}
use Rattle.base.specs.Answer.{Told, Extracted, extracted, extraction_told}
use Rattle.base.specs.Answer.Told.{result, alone}

-- what the call leaves: its answer, and the two buffers
pub record Left : Type 0 where
  pub answer : Told Extracted
  pub tiles : List ℤ
  pub map : List ℕ

abbrev pub extracting : Told Extracted → List ℤ → List ℕ → Left
extracting told tiles map = record { answer = told; tiles = tiles; map = map }

abbrev pub left : Extraction → List ℤ → List ℕ → Left
left answer tiles map = extracting (extraction_told answer) tiles map

-- 17: "`extract`: tile side 0 or not dividing both sides"
unfoldable pub side_checks : ℕ → ℕ → ℕ → List Check
side_checks w h t =
    bad_clip when eqb t 0
    ∷ bad_clip when not (eqb (w % t) 0)
    ∷ bad_clip when not (eqb (h % t) 0)
    ∷ []

-- the tiles at the front of the one buffer, the map at the front of the other; 16: "result count exceeds its buffer", t × t indices a tile,
-- three numbers an entry
unfoldable pub extracted_in : ℕ → ℕ → ℕ → List ℤ → List ℤ → List ℕ → Left
extracted_in w h t indices tiles map =
    let e = extract_of w h t indices in
    checked
    (no_space when ltb (length tiles) (length (tiles_of e))
    ∷ no_space when ltb (length map) (length (map_of e))
    ∷ [])
    (λ n. extracting (alone n) tiles map)
    (extracting (result (extracted (length e.unique) (length e.entries))) (over (tiles_of e) tiles) (over (map_of e) map))

-- 1, 2, 3, 17, 16: "scratch under w × h places"; then the tiles and the map
unfoldable pub extract_call : Sheet → ℕ → ℕ → List ℤ → List ℕ → Left
extract_call s t places tiles map =
    checked (sheet_checks [] s ++ (side_checks s.w s.h t ++ (no_space when ltb places (s.w * s.h) ∷ [])))
    (λ m. extracting (alone m) tiles map)
    (extracted_in s.w s.h t s.indices tiles map)
