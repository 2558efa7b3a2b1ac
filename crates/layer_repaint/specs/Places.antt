-- The places of a layer that are repainted. Definitions only. Assumes nothing.
use Rattle.std.specs.Prelude.{◌≡◌, Bool, false, not, cond, List, ℕ, ℤ, negsuc, length, get_or}
use Rattle.base.specs.Lists.{some}
use Rattle.sheet.specs.Sheet.{stray}
use Rattle.sheet_diff.specs.Mask.{shown, same_bytes}
use Rattle.layer_shown.specs.Layers.{pixel_in}
use Rattle.layer_shown.specs.Stack.{shown_in, pixel_up_to}

-- a layer's colours and indices
pub record View : Type 0 where
  pub palette : List ℕ
  pub indices : List ℤ

abbrev pub view_of : List ℕ → List ℤ → View
view_of palette indices = record { palette = palette; indices = indices }

-- what is known of a well-formed layer of n places
pub record Viewed (n : ℕ) (v : View) : Type 0 where
  pub palette-length : length v.palette ≡ 765
  pub indices-length : length v.indices ≡ n
  pub in-range : some (stray 255) v.indices ≡ false

-- "whose shown colour on that layer changed"
unfoldable pub other_at : View → View → ℕ → Bool
other_at before now p =
    not (same_bytes (shown before.palette (get_or before.indices p (negsuc 0))) (shown now.palette (get_or now.indices p (negsuc 0))))

-- the pixel of all layers there, or what the buffer has
unfoldable pub place_of : (ℕ → List ℕ) → View → View → List ℕ → ℕ → List ℕ
place_of pixel before now out p = cond (other_at before now p) (pixel p) (pixel_in out p)

-- the same of layer `edited` of so many, of n places each
unfoldable pub stack_place : ℕ → ℕ → List ℕ → List ℤ → ℕ → View → List ℕ → ℕ → List ℕ
stack_place n count palettes indices edited before out p =
    cond (not (same_bytes (shown before.palette (get_or before.indices p (negsuc 0))) (shown_in n palettes indices edited p)))
    (pixel_up_to n palettes indices count p)
    (pixel_in out p)
