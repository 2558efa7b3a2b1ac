-- Checks 1 to 3, in document 01's order. Every call on a sheet begins with these; one that takes the entries' lock marks, too (document 02, E5), holds
-- them to number 1. Definitions only. Assumes nothing.
use Rattle.std.specs.Prelude.{◌≡◌, ℕ, ◌*◌, ◌%◌, ◌≤◌, Bool, false, not, ◌&&◌, ◌||◌, List, [], ◌∷◌, ◌++◌, ltb, eqb, length, take}
use Rattle.base.specs.Limits.{max_side, max_entries, storage, max_permitted}
use Rattle.base.specs.Numbers.{bad_sheet, stray_index, unfit_lab}
use Rattle.base.specs.Checks.{Check, ◌when◌, first_of}
use Rattle.base.specs.Lists.{some}
use Rattle.color_doubles.specs.Finite.{unfit}
use Rattle.sheet.specs.Sheet.{Sheet, stray}

-- 1: "w and h 0 to 1,024; k palette entries, 0 to 255; w × h signed 16-bit indices .. Palette storage is 765 bytes, LAB storage 765 doubles"
unfoldable pub limit_checks : Sheet → List Check
limit_checks s =
    bad_sheet when ltb max_side s.w
    ∷ bad_sheet when ltb max_side s.h
    ∷ bad_sheet when ltb max_entries s.k
    ∷ bad_sheet when not (eqb (length s.palette) storage)
    ∷ bad_sheet when not (eqb (length s.lab) storage)
    ∷ bad_sheet when not (eqb (length s.indices) (s.w * s.h))
    ∷ []

-- 1: "Permitted colours: absent, or 0 to 4,096", three bytes a colour
unfoldable pub permitted_checks : Bool → List ℕ → List Check
permitted_checks limited colours =
    bad_sheet when (limited && (not (eqb (length colours % 3) 0) || ltb (3 * max_permitted) (length colours)))
    ∷ []

-- 1: "Each entry has a lock mark" (document 02, E5): a mark for each of the 255 that storage has room for
unfoldable pub mark_checks : List Bool → List Check
mark_checks locks = bad_sheet when not (eqb (length locks) max_entries) ∷ []

-- 2: "an index outside -1..k-1"
unfoldable pub index_checks : Sheet → List Check
index_checks s = stray_index when some (stray s.k) s.indices ∷ []

-- 3: "a used .. LAB number not finite"
unfoldable pub lab_checks : Sheet → List Check
lab_checks s = unfit_lab when some unfit (take (3 * s.k) s.lab) ∷ []

-- 1, 2, 3; `more` are what else a call holds to number 1
unfoldable pub sheet_checks : List Check → Sheet → List Check
sheet_checks more s = limit_checks s ++ (more ++ (index_checks s ++ lab_checks s))

-- what a caller knows of a sheet that number 1 does not refuse
pub record Limits (s : Sheet) : Type 0 where
  pub w-small : s.w ≤ 1024
  pub h-small : s.h ≤ 1024
  pub k-small : s.k ≤ 255
  pub cells : s.w * s.h ≤ 1048576
  pub palette-length : length s.palette ≡ 765
  pub lab-length : length s.lab ≡ 765
  pub indices-length : length s.indices ≡ s.w * s.h

-- "A sheet is well-formed where none of 1 to 3 applies"
pub record WellFormed (s : Sheet) : Type 0 where
  pub limits : Limits s
  pub in-range : some (stray s.k) s.indices ≡ false
  pub fit : some unfit (take (3 * s.k) s.lab) ≡ false

-- the number that the first applicable check gives, and what 0 means
pub record Limited (s : Sheet) (n : ℕ) : Type 0 where
  pub value : n ≡ first_of (limit_checks s)
  pub fine : n ≡ 0 → Limits s

pub record Judged (s : Sheet) (n : ℕ) : Type 0 where
  pub value : n ≡ first_of (sheet_checks [] s)
  pub fine : n ≡ 0 → WellFormed s

-- the same of a sheet and its marks
pub record Marked (s : Sheet) (locks : List Bool) : Type 0 where
  pub formed : WellFormed s
  pub marks : length locks ≡ 255

pub record MarkedJudged (s : Sheet) (locks : List Bool) (n : ℕ) : Type 0 where
  pub value : n ≡ first_of (sheet_checks (mark_checks locks) s)
  pub fine : n ≡ 0 → Marked s locks
