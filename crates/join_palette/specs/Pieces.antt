-- Pieces of a list, as long as each other, that a list of numbers names. Definitions only. Assumes nothing.
use Rattle.std.specs.Prelude.{ℕ, ◌*◌, List, take, drop}
use mathlib.Core.List.{flat_map}

-- the pieces of n elements: number i is those from n * i on
unfoldable pub pieces : {A : Type 0} → ℕ → List A → List ℕ → List A
pieces n l named = flat_map (λ i. take n (drop (n * i) l)) named
