-- Layers of one symbol: how they are lent, and what they show. Change request E1. Definitions only. Assumes nothing.
use Rattle.std.specs.Prelude.{Bool, not, cond, ℕ, ◌*◌, ℤ, negsuc, Float, get_or, take, drop}
use mathlib.Core.List.{List, [], ◌∷◌, ◌++◌, map, flat_map, reverse}
use Rattle.base.specs.Limits.{storage}
use Rattle.base.specs.Lists.{range}
use Rattle.sheet.specs.Sheet.{Sheet, sheet_of}
use Rattle.sheet_diff.specs.Mask.{shown, same_bytes}

-- ---- what is lent: one buffer a kind, with the layers one after the other, the first at the bottom. A layer has three
-- sizes (w, h, k), 765 bytes, 765 doubles and w × h indices. The last has what is left of the buffers, so that a buffer of
-- another length is number 1 of a layer
unfoldable pub layers_of : List ℕ → List ℕ → List Float → List ℤ → List Sheet
layers_of (w ∷ h ∷ k ∷ []) palettes labs indices = sheet_of w h k palettes labs indices ∷ []
layers_of (w ∷ h ∷ k ∷ n ∷ more) palettes labs indices =
    sheet_of w h k (take storage palettes) (take storage labs) (take (w * h) indices)
    ∷ layers_of (n ∷ more) (drop storage palettes) (drop storage labs) (drop (w * h) indices)
layers_of (w ∷ h ∷ []) palettes labs indices = []
layers_of (w ∷ []) palettes labs indices = []
layers_of [] palettes labs indices = []

-- ---- the flattening
-- the colour that a layer shows at a place, in rows: none where it is -1
unfoldable pub shown_at : ℕ → Sheet → List ℕ
shown_at p s = shown s.palette (get_or s.indices p (negsuc 0))

-- a colour over what lies below it: "alpha 255"
unfoldable pub laid_over : List ℕ → List ℕ → List ℕ
laid_over [] below = below
laid_over (b ∷ bs) below = (b ∷ bs) ++ (255 ∷ [])

-- "each pixel takes the topmost layer .. that is not -1, alpha 255, or four zero bytes": colours from the top down
unfoldable pub topmost : List (List ℕ) → List ℕ
topmost [] = 0 ∷ 0 ∷ 0 ∷ 0 ∷ []
topmost (c ∷ below) = laid_over c (topmost below)

-- "(the last is topmost)"
unfoldable pub pixel_of : List Sheet → ℕ → List ℕ
pixel_of layers p = topmost (reverse (map (shown_at p) layers))

-- n pixels, row by row
unfoldable pub flattened : List Sheet → ℕ → List ℕ
flattened layers n = flat_map (pixel_of layers) (range 0 n)

-- ---- the repainting: "only the places whose shown colour on that layer changed"
unfoldable pub changed_at : ℕ → Sheet → Sheet → Bool
changed_at p before now = not (same_bytes (shown_at p before) (shown_at p now))

-- the four bytes that a buffer has of a pixel
abbrev pub pixel_in : List ℕ → ℕ → List ℕ
pixel_in out p = take 4 (drop (4 * p) out)

-- the other places keep what the buffer has
unfoldable pub repainted_at : List Sheet → Sheet → Sheet → List ℕ → ℕ → List ℕ
repainted_at layers before now out p = cond (changed_at p before now) (pixel_of layers p) (pixel_in out p)

-- the layers as they are now; of the edited one the earlier sheet and this one
unfoldable pub repainted : List Sheet → Sheet → Sheet → ℕ → List ℕ → List ℕ
repainted layers before now n out = flat_map (repainted_at layers before now out) (range 0 n)
