-- What `unhex` answers, beside the list that it left. Definitions only. Assumes nothing.
use Rattle.std.specs.Prelude.{ℕ, ◌≤◌, List, take, length, Option, Some, None}
use Rattle.std.proofs.Math.Option as option

unfoldable pub spelt : Option ℕ → List ℕ → option.Option (List ℕ)
spelt (Some n) l = option.some (take n l)
spelt None l = option.none

-- the bytes lie in the list
unfoldable pub Within : Option ℕ → List ℕ → Type 0
Within (Some n) l = n ≤ length l
Within None l = Unit {0}
