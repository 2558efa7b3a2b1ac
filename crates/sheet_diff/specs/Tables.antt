-- The tables that the loop over the indices reads: a number for what each index shows. Definitions only. Assumes nothing.
use Rattle.std.specs.Prelude.{◌≡◌, false, List, ℕ, suc, ◌+◌, ◌*◌, ◌<◌, ℤ, pos, negsuc, get_or}
use Rattle.base.specs.declared.Rgb.{Rgb}
use Rattle.sheet.specs.Sheet.{stray}
use Rattle.base.specs.Triples.{rgb_at}

-- the place of an index in a table of 256: the transparent one's is first
unfoldable pub slot_of : ℤ → ℕ
slot_of (pos n) = suc n
slot_of (negsuc n) = 0

-- a colour's three bytes as one number
pub record Numbered (c : Rgb) (x : ℕ) : Type 0 where
  pub value : x ≡ c.r + 256 * c.g + 65536 * c.b
  pub r-byte : c.r < 256
  pub g-byte : c.g < 256
  pub b-byte : c.b < 256

-- the number of what an index shows; of the transparent one, a number that no colour has
unfoldable pub Shade : List ℕ → ℤ → ℕ → Type 0
Shade palette (pos n) x = Numbered (rgb_at palette n) x
Shade palette (negsuc n) x = x ≡ 16777216

-- a table that has the numbers of the transparent index and of the first k entries
pub record Shades (k : ℕ) (palette table : List ℕ) : Type 0 where
  pub shade : (z : ℤ) → stray k z ≡ false → Shade palette z (get_or table (slot_of z) 0)
