-- Document 01's two starred examples of `normalize`. Assumes nothing.
use Prim.Native.Nat.{ℕ}
use mathlib.Core.Path.{◌≡◌, refl}
use mathlib.Core.List.{[], ◌∷◌}
use lib.IntN.{pos}
use Rattle.edit.specs.Change.{Change}
use Rattle.base.specs.Ints.{eq_z}
use Rattle.change_normal.specs.Normal.{key_of, joined, enter, entered, changing, normalize_of}
use Rattle.base.specs.Lists.{kept}

-- (x, y, old→new)
abbrev change : ℕ → ℕ → ℕ → ℕ → Change
change x y old new = record { x = x; y = y; old = pos old; new = pos new }

pub record Examples : Type 0 where
  -- "Normalise (1,0,0→2),(0,0,1→1),(1,0,2→5): (1,0,0→5)"
  pub one : normalize_of (change 1 0 0 2 ∷ change 0 0 1 1 ∷ change 1 0 2 5 ∷ []) ≡ change 1 0 0 5 ∷ []
  -- "(1,0,0→2),(1,0,2→0): empty"
  pub none : normalize_of (change 1 0 0 2 ∷ change 1 0 2 0 ∷ []) ≡ []

pub examples : Examples
unfolding normalize_of entered enter kept changing key_of joined eq_z
examples = record { one = refl; none = refl }
