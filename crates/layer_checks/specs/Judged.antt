-- Layers judged, one after the other. Definitions only. Assumes nothing.
use Rattle.std.specs.Prelude.{◌≡◌, Bool, false, not, cond, ◌||◌, ℕ, ◌*◌, ◌%◌, ◌<◌, ◌≤◌, ltb, eqb, ℤ, Float, length, get_or, take}
use mathlib.Core.List.{List, [], ◌∷◌, ◌++◌, flat_map}
use Rattle.base.specs.Limits.{storage, max_layers}
use Rattle.base.specs.Checks.{first_of}
use Rattle.base.specs.Lists.{All}
use Rattle.sheet.specs.Sheet.{Sheet, sheet_of}
use Rattle.sheet.specs.Checks.{sheet_checks, WellFormed}
use Rattle.layer_shown.specs.Layers.{layers_of}
use Rattle.layer_shown.specs.Calls.{count_checks}

-- the first layer: its part of the buffers, or all that is left of them where it is the last
unfoldable pub bottom : List ℕ → List ℕ → List Float → List ℤ → Sheet
bottom sizes palettes labs indices =
    let w = get_or sizes 0 0 in
    let h = get_or sizes 1 0 in
    let k = get_or sizes 2 0 in
    cond (eqb (length sizes) 3)
    (sheet_of w h k palettes labs indices)
    (sheet_of w h k (take storage palettes) (take storage labs) (take (w * h) indices))

-- "when the count is not 1 to 8", three sizes a layer
unfoldable pub count_wrong : ℕ → Bool
count_wrong n = not (eqb (n % 3) 0) || (eqb n 0 || ltb (3 * max_layers) n)

-- "when a size differs" from w by h
unfoldable pub sizes_differ : ℕ → ℕ → List ℕ → Bool
sizes_differ w h (a ∷ b ∷ k ∷ more) = (not (eqb a w) || not (eqb b h)) || sizes_differ w h more
sizes_differ w h (a ∷ b ∷ []) = false
sizes_differ w h (a ∷ []) = false
sizes_differ w h [] = false

-- what a caller knows of layers that are not refused
pub record Stands (sizes palettes : List ℕ) (labs : List Float) (indices : List ℤ) : Type 0 where
  pub any : 0 < length sizes
  pub few : length sizes ≤ 24
  pub thirds : length sizes % 3 ≡ 0
  pub fit : All WellFormed (layers_of sizes palettes labs indices)

-- the number of the first of the checks that applies, and what 0 means
pub record LayersJudged (sizes palettes : List ℕ) (labs : List Float) (indices : List ℤ) (n : ℕ) : Type 0 where
  pub value : n ≡ first_of (count_checks sizes ++ flat_map (sheet_checks []) (layers_of sizes palettes labs indices))
  pub fine : n ≡ 0 → Stands sizes palettes labs indices
