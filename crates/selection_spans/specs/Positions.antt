-- The positions of selection.rs's `positions`, and a buffer that they are written to. Definitions only. Assumes nothing.
use mathlib.Core.List.{List, [], ◌∷◌, map, flat_map}
use Rattle.std.specs.Prelude.{ℕ, ◌+◌, ◌*◌, ◌^◌, ◌<◌, ◌≤◌, ℤ, pos, length}
use Rattle.base.specs.Lists.{range}

pub record Position : Type 0 where
  pub x : ℕ
  pub y : ℕ

abbrev pub position : ℕ → ℕ → Position
position y x = record { x = x; y = y }

-- `(self.x..self.x + self.w).map(move |x| (x, y))`
unfoldable pub row : ℕ → ℕ → ℕ → List Position
row x w y = map (position y) (range x w)

-- `(self.y..self.y + self.h).flat_map(..)`, of n rows
abbrev pub rows : ℕ → ℕ → ℕ → ℕ → List Position
rows x w y n = flat_map (row x w) (range y n)

-- in a buffer of numbers: x, then y
abbrev pub coordinates : Position → List ℤ
coordinates p = pos p.x ∷ pos p.y ∷ []

unfoldable pub flat : List Position → List ℤ
flat ps = flat_map coordinates ps

-- what writing a row asks: room for its w positions, whose coordinates 32 bits with a sign hold
pub record RowFits (x w y : ℕ) (out : List ℤ) : Type 0 where
  pub room : 2 * w ≤ length out
  pub right : x + w < 2 ^ 31
  pub below : y < 2 ^ 31
