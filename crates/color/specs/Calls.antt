-- The calls that refuse: their checks, in document 01's order, and their answers. Definitions only. Assumes nothing.
use Rattle.std.specs.Prelude.{◌≡◌, not, List, [], ◌∷◌, ℕ, ◌*◌, ◌^◌, T, ltb, eqb, length, take, Float}
use Rattle.std.specs.Float.{binary64}
use Rattle.std.specs.Float.Ieee.{to_bits}
use Rattle.base.specs.Limits.{max_entries, storage}
use Rattle.base.specs.Numbers.{bad_sheet, unfit_lab, no_such_entry, root_range}
use Rattle.base.specs.Checks.{Check, ◌when◌, checked}
use Rattle.base.specs.Answer.{Told, EntryAt, entry_at, root_told, found_told}
use Rattle.base.specs.Answer.Told.{result, alone}
use Rattle.base.specs.declared.Lab.{Lab}
use Rattle.base.specs.Lists.{some}
use Rattle.color_doubles.specs.NearestDouble.{units_of, NoneNearer}
use Rattle.color_root.specs.CubeRoot.{in_root_range, root_of}
use Rattle.color_doubles.specs.Finite.{unfit, unfit_triple}
use Rattle.color_nearest.specs.Nearest.{distance, nearest_of, FirstNearest}
use Rattle.base.specs.declared.Root.{Root}
use Rattle.base.specs.declared.Found.{Found}

-- ---- `cbrt`: "root range: cube root outside 1/128..2, or not a number"
unfoldable pub root_checks : Float → List Check
root_checks t = root_range when not (in_root_range t) ∷ []

unfoldable pub cbrt_of : Float → Told Float
cbrt_of t = checked (root_checks t) alone (result (root_of t))

-- the answer, and that no double is nearer to the exact root
pub record CubeRoot (t : Float) (r : Root) : Type 0 where
  pub value : root_told r ≡ cbrt_of t
  pub nearest : T (in_root_range t) → NoneNearer 3 (units_of (to_bits binary64 t)) (2 ^ 1074) (to_bits binary64 (root_of t))

-- ---- `nearest_index`: "a used or searched LAB number not finite", "a nearest search with k = 0"
unfoldable pub nearest_checks : Lab → List Float → ℕ → List Check
nearest_checks target lab k =
    bad_sheet when ltb max_entries k
    ∷ bad_sheet when not (eqb (length lab) storage)
    ∷ unfit_lab when some unfit (take (3 * k) lab)
    ∷ unfit_lab when unfit_triple target
    ∷ no_such_entry when eqb k 0
    ∷ []

-- the entry, and "that entry's `dist2`" (document 02, E3)
unfoldable pub nearest_index_of : Lab → List Float → ℕ → Told EntryAt
nearest_index_of target lab k =
    let i = (nearest_of target lab k).entry in
    checked (nearest_checks target lab k) alone (result (entry_at i (distance target lab i)))

-- the answer, and that its entry is the first of the nearest
pub record NearestEntry (target : Lab) (lab : List Float) (k : ℕ) (r : Found) : Type 0 where
  pub value : found_told r ≡ nearest_index_of target lab k
  pub first : (e : EntryAt) → found_told r ≡ result e → FirstNearest target lab k e.index
