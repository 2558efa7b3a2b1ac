-- Which entries of the second palette bring a colour, as the code finds them: by the bytes of both palettes.
-- Definitions only. Assumes nothing.
use Rattle.std.specs.Prelude.{◌≡◌, Bool, not, ◌&&◌, List, ℕ, ◌*◌, length, take}
use Rattle.base.specs.Lists.{kept, range, over}
use Rattle.base.specs.Triples.{rgb_at}
use Rattle.edit.specs.Checks.{listed}

-- its colour is not in the first, nor earlier in the second
unfoldable pub brings : List ℕ → List ℕ → ℕ → Bool
brings first second i = not (listed first (rgb_at second i)) && not (listed (take (3 * i) second) (rgb_at second i))

unfoldable pub news_of : List ℕ → List ℕ → ℕ → List ℕ
news_of first second k = kept (brings first second) (range 0 k)

-- a list of numbers, left over what stood there, and its length
pub record Found (found before after : List ℕ) (n : ℕ) : Type 0 where
  pub count : n ≡ length found
  pub list : after ≡ over found before
