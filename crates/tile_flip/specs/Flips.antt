-- `flip` of tiles.rs as a call: its checks, in document 01's order, and its answer. Definitions only. Assumes nothing.
use Rattle.std.specs.Prelude.{ℕ, ◌*◌, Bool, not, List, [], ◌∷◌, ltb, eqb, ℤ, length}
use Rattle.base.specs.Limits.{max_side}
use Rattle.base.specs.Numbers.{no_space, bad_clip}
use Rattle.base.specs.Checks.{◌when◌, checked}
use Rattle.base.specs.Answer.{Filled, leaving}
use Rattle.base.specs.Answer.Told.{result, alone}
use Rattle.base.specs.Lists.{over}
use Rattle.tile_cells.specs.Tile.{flipped}

-- 17: "side over 1,024 .. or length not w × h (`flip`: both sides t)"; then 16; t × t indices
unfoldable pub flip_of : ℕ → Bool → Bool → List ℤ → List ℤ → Filled ℤ
flip_of t flipH flipV tile out =
    checked
    (bad_clip when ltb max_side t
    ∷ bad_clip when not (eqb (length tile) (t * t))
    ∷ no_space when ltb (length out) (t * t)
    ∷ [])
    (λ n. leaving (alone n) out)
    (leaving (result (t * t)) (over (flipped t flipH flipV tile) out))
