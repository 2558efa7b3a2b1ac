-- A number for a tile; what is found by it rests only on flips keeping the key below. Definitions only. Assumes nothing.
use Rattle.std.specs.Prelude.{ℕ, ◌+◌, ◌*◌, ◌/◌, ◌%◌, ◌^◌, true, false, List, [], ◌∷◌, ℤ}
use Rattle.std.specs.Int.{w16}
use Rattle.std.proofs.Common.{of_z}
use Rattle.tile_cells.specs.Tile.{flipped}

-- one index mixed in
unfoldable pub mixed : ℕ → ℤ → ℕ
mixed n z = (n + of_z w16 z) * 1664525 % 2 ^ 32

unfoldable pub mixed_all : ℕ → List ℤ → ℕ
mixed_all n [] = n
mixed_all n (z ∷ l) = mixed_all (mixed n z) l

-- the middle digits of a square
unfoldable pub number_of : List ℤ → ℕ
number_of tile = mixed_all 7 tile * mixed_all 7 tile / 2 ^ 16 % 2 ^ 32

-- the numbers of its flips together: flips keep this
unfoldable pub key_of : ℕ → List ℤ → ℕ
key_of t tile =
    (number_of (flipped t false false tile) + number_of (flipped t true false tile)
    + number_of (flipped t false true tile) + number_of (flipped t true true tile)) % 2 ^ 32

-- a key spread over n places
unfoldable pub scaled : ℕ → ℕ → ℕ
scaled key n = key * n / 2 ^ 32
