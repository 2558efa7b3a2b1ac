-- The checks that `nearest_other` and `remove_entry` of palette.rs begin with, and the nearest of the other entries. Definitions only. Assumes nothing.
use Rattle.std.specs.Prelude.{◌≡◌, ℕ, suc, ◌*◌, ◌-◌, ◌<◌, ◌≤◌, Bool, cond, List, [], ◌∷◌, ◌++◌, T, ltb, leb, take, Float}
use Rattle.std.specs.Float.Ieee.{lt, le}
use Rattle.base.specs.Numbers.{no_such_entry, last_entry, entry_locked}
use Rattle.base.specs.Checks.{Check, ◌when◌, first_of}
use Rattle.base.specs.Answer.{EntryAt, entry_at}
use Rattle.color_nearest.specs.declared.Near.{Near}
use Rattle.color_nearest.specs.Nearest.{distance, nearest_of}
use Rattle.base.specs.Triples.{lab_at}
use Rattle.sheet.specs.Sheet.{Sheet}
use Rattle.sheet.specs.Checks.{mark_checks, sheet_checks, WellFormed}
use Rattle.edit.specs.Storage.{cut}
use Rattle.edit.specs.Locks.{lock_at}

-- 1, 2, 3, then "`remove_entry`, `nearest_other`: 7, 9"
unfoldable pub other_checks : Sheet → ℕ → List Check
other_checks s i = sheet_checks [] s ++ (no_such_entry when leb s.k i ∷ last_entry when ltb s.k 2 ∷ [])

-- of `remove_entry`, with the marks: "24 .. directly after 7 (never in `nearest_other`)" (document 02, E5)
unfoldable pub removal_checks : Sheet → List Bool → ℕ → List Check
removal_checks s locks i =
    sheet_checks (mark_checks locks) s
    ++ (no_such_entry when leb s.k i ∷ entry_locked when lock_at locks i ∷ last_entry when ltb s.k 2 ∷ [])

-- what a caller knows where none of these checks applies, and the number of the first that does
pub record HasOthers (s : Sheet) (i : ℕ) : Type 0 where
  pub formed : WellFormed s
  pub entry : i < s.k
  pub more : 2 ≤ s.k

pub record Removable (checks : List Check) (s : Sheet) (i n : ℕ) : Type 0 where
  pub value : n ≡ first_of checks
  pub fine : n ≡ 0 → HasOthers s i

-- "`nearest_other` takes the first entry but the removed one with the smallest float `dist2`, the first such entry if all are infinite": the
-- search of `nearest_index` in the LAB list without the entry, after which the entries from it on stand one higher
unfoldable pub nearest_other : List Float → ℕ → ℕ → ℕ
nearest_other lab k i =
    let j = (nearest_of (lab_at lab i) (cut (3 * i) (take (3 * k) lab)) (k - 1)).entry in
    cond (leb i j) (suc j) j

-- What that is: another entry, no other is nearer, and each other one before it is strictly farther.
pub record FirstOther (lab : List Float) (k i j : ℕ) : Type 0 where
  pub other : j ≡ i → ⊥
  pub inside : j < k
  pub least : (m : ℕ) → m < k → (m ≡ i → ⊥) → T (le (distance (lab_at lab i) lab j) (distance (lab_at lab i) lab m))
  pub first : (m : ℕ) → m < j → (m ≡ i → ⊥) → T (lt (distance (lab_at lab i) lab j) (distance (lab_at lab i) lab m))

-- that entry, and "that entry's `dist2`" (document 02, E3)
unfoldable pub substitute : List Float → ℕ → ℕ → EntryAt
substitute lab k i =
    let j = nearest_other lab k i in
    entry_at j (distance (lab_at lab i) lab j)

pub record Nearest (lab : List Float) (k i : ℕ) (r : Near) : Type 0 where
  pub value : entry_at r.entry r.distance ≡ substitute lab k i
  pub first : FirstOther lab k i r.entry
