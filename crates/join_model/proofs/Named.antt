-- The colours, LAB numbers and marks of the entries that a list names, one after the other. Definitions only. Assumes nothing.
use Rattle.std.specs.Prelude.{Bool, ℕ, Float}
use mathlib.Core.List.{List, map, flat_map}
use Rattle.base.specs.Triples.{rgb_at, lab_at}
use Rattle.edit.specs.Storage.{bytes_of, numbers_of}
use Rattle.edit.specs.Locks.{lock_at}

unfoldable pub colours_at : List ℕ → List ℕ → List ℕ
colours_at palette l = flat_map (λ i. bytes_of (rgb_at palette i)) l

unfoldable pub labs_at : List Float → List ℕ → List Float
labs_at lab l = flat_map (λ i. numbers_of (lab_at lab i)) l

unfoldable pub locks_at : List Bool → List ℕ → List Bool
locks_at locks l = map (lock_at locks) l
