-- `nearest_other` of palette.rs. Definitions only. Assumes nothing.
use Rattle.std.specs.Prelude.{◌≡◌, ℕ}
use Rattle.base.specs.Checks.{checked}
use Rattle.base.specs.declared.Found.{Found}
use Rattle.base.specs.Answer.{Told, EntryAt, found_told}
use Rattle.base.specs.Answer.Told.{result, alone}
use Rattle.sheet.specs.Sheet.{Sheet}
use Rattle.palette_model.specs.Nearest.{other_checks, substitute, FirstOther}

-- 1 to 3, 7, 9, then the first of the nearest others, and its distance
unfoldable pub nearest_other_of : Sheet → ℕ → Told EntryAt
nearest_other_of s i = checked (other_checks s i) alone (result (substitute s.lab s.k i))

-- the answer, and that its entry is the first of the nearest others
pub record NearestOther (s : Sheet) (i : ℕ) (r : Found) : Type 0 where
  pub value : found_told r ≡ nearest_other_of s i
  pub first : (e : EntryAt) → found_told r ≡ result e → FirstOther s.lab s.k i e.index
