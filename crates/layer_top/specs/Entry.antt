-- The pixel of one entry. Definitions only. Assumes nothing.
use Rattle.std.specs.Prelude.{List, [], ◌∷◌, ℕ, ◌*◌, ℤ, take, drop}
use Rattle.base.specs.Limits.{storage}
use Rattle.sheet_diff.specs.Mask.{shown}
use Rattle.layer_shown.specs.Layers.{topmost}

-- what an index of layer i shows where nothing lies below
unfoldable pub entry_bytes : List ℕ → ℕ → ℤ → List ℕ
entry_bytes palettes i z = topmost (shown (take storage (drop (storage * i) palettes)) z ∷ [])
