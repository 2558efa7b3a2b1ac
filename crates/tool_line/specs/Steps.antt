-- The steps of a line at which one axis stands between two places. Definitions only. Assumes nothing.
use Rattle.std.specs.Prelude.{◌≡◌, Bool, false, not, ◌&&◌, ℕ, ◌≤◌, leb, ltb, ℤ, nat_abs}
use Rattle.std.specs.Int.Signed.{lt_z}
use Rattle.base.specs.Ints.{far}
use Rattle.tool_line.specs.declared.Steps.{Steps}
use Rattle.tool_line.specs.Line.{side, toward, offset}

-- where one axis of a line with longer side m stands at step j
unfoldable pub place_on : ℤ → ℤ → ℕ → ℕ → ℤ
place_on a b m j = toward a b (offset a b m j)

-- whether j is one of these steps
unfoldable pub among : Steps → ℕ → Bool
among s j = leb s.first j && ltb j s.end

-- whether z lies from lo on and below hi
unfoldable pub lies_in : ℤ → ℤ → ℤ → Bool
lies_in lo hi z = not (lt_z z lo) && lt_z z hi

-- ---- what is asked
-- one axis, from a to b, of a line with longer side m
pub record OfLine (a b : ℤ) (m : ℕ) : Type 0 where
  pub near-start : far a ≡ false
  pub near-end : far b ≡ false
  pub shorter : side a b ≤ m
  pub long : m ≤ 131072

-- a place whose distance to a point fits
unfoldable pub Bound : ℤ → Type 0
Bound z = nat_abs z ≤ 262144
