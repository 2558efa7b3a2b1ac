-- The pixels of one index, by their places. Definitions only. Assumes nothing.
use Rattle.std.specs.Prelude.{ℕ, suc, cond, List, [], ◌∷◌, ℤ}
use Rattle.base.specs.Ints.{eq_z}

-- the places, from p on, of the pixels that have index i
unfoldable pub places_from : ℤ → ℕ → List ℤ → List ℕ
places_from i p [] = []
places_from i p (z ∷ l) = cond (eq_z z i) (p ∷ places_from i (suc p) l) (places_from i (suc p) l)
