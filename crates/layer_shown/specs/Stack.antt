-- Layers of one size where they lie in the buffers, n places each. Definitions only. Assumes nothing.
use Rattle.std.specs.Prelude.{◌≡◌, false, List, [], ◌∷◌, ℕ, zero, suc, ◌+◌, ◌*◌, ◌≤◌, ℤ, negsuc, length, get_or, take, drop}
use Rattle.base.specs.Limits.{storage}
use Rattle.base.specs.Lists.{some}
use Rattle.sheet.specs.Sheet.{stray}
use Rattle.sheet_diff.specs.Mask.{shown}
use Rattle.layer_shown.specs.Layers.{laid_over}

-- what layer i shows at a place
unfoldable pub shown_in : ℕ → List ℕ → List ℤ → ℕ → ℕ → List ℕ
shown_in n palettes indices i p = shown (take storage (drop (storage * i) palettes)) (get_or indices (n * i + p) (negsuc 0))

-- the pixel there of the first layers alone, so many: each lies over those before it
unfoldable pub pixel_up_to : ℕ → List ℕ → List ℤ → ℕ → ℕ → List ℕ
pixel_up_to n palettes indices zero p = 0 ∷ 0 ∷ 0 ∷ 0 ∷ []
pixel_up_to n palettes indices (suc i) p = laid_over (shown_in n palettes indices i p) (pixel_up_to n palettes indices i p)

-- what is known of so many well-formed layers of one size
pub record Stacked (n count : ℕ) (palettes : List ℕ) (indices : List ℤ) : Type 0 where
  pub small : n ≤ 1048576
  pub few : count ≤ 8
  pub palettes-length : length palettes ≡ 765 * count
  pub indices-length : length indices ≡ n * count
  pub in-range : some (stray 255) indices ≡ false
