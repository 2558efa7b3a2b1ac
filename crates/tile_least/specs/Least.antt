-- Of a tile's four flips the least: one reading for a tile and all its flips. Definitions only. Assumes nothing.
use Rattle.std.specs.Prelude.{ℕ, ◌<◌, ◌^◌, ◌≡◌, cond, List, [], ◌∷◌, eqb, ℤ}
use Rattle.std.specs.Int.Signed.{lt_z}
use Rattle.std.specs.Int.{w16}
use Rattle.std.proofs.Common.{of_z, SFits}
use Rattle.base.specs.Checks.{or_else}
use Rattle.tile_cells.specs.Tile.{turned_by}
use Rattle.tile_cells.specs.Seen.{tile_at}

-- ---- two readings compared: 0 where they are the same, 1 where the first is less, 2 where the second is
unfoldable pub compared_z : ℤ → ℤ → ℕ
compared_z a b = cond (lt_z a b) 1 (cond (lt_z b a) 2 0)

-- by the first index that differs
unfoldable pub compared : List ℤ → List ℤ → ℕ
compared [] m = 0
compared (a ∷ l) [] = 0
compared (a ∷ l) (b ∷ m) = or_else (compared_z a b) (compared l m)

unfoldable pub lesser : List ℤ → List ℤ → List ℤ
lesser l m = cond (eqb (compared l m) 2) m l

-- a tile where it lies, seen in one of the orders of the flips
abbrev pub seen_in : List ℤ → ℕ → ℕ → ℕ → ℕ → List ℤ
seen_in l corner stride t order = turned_by t order (tile_at l corner stride t)

-- ---- the least of the flips none, h, v, both
unfoldable pub least_of : ℕ → List ℤ → List ℤ
least_of t tile = lesser (lesser (turned_by t 0 tile) (turned_by t 1 tile)) (lesser (turned_by t 2 tile) (turned_by t 3 tile))

-- an index as the number of its 16 bits; no other index has it
pub record Digit (z : ℤ) (r : ℕ) : Type 0 where
  pub is : r ≡ of_z w16 z
  pub small : r < 2 ^ 16
  pub fits : SFits w16 z
