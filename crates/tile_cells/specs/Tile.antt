-- Tiles and their flips: `flip` and `FLIPS` of tiles.rs. A tile is its t × t indices, row by row. Definitions only. Assumes nothing.
use Rattle.std.specs.Prelude.{ℕ, suc, ◌+◌, ◌-◌, ◌*◌, Bool, true, false, ◌&&◌, cond, ltb, ℤ, pos, get_or}
use mathlib.Core.List.{List, [], ◌∷◌, map, flat_map}
use Rattle.base.specs.Lists.{range}
use Rattle.base.specs.Ints.{eq_z}

-- `for y in 0..t { .. for x in 0..t { .. out.push(..) } }`
unfoldable pub grid : ℕ → (ℕ → ℕ → ℤ) → List ℤ
grid t f = flat_map (λ y. map (f y) (range 0 t)) (range 0 t)

-- `if flip_v { t - 1 - y } else { y }`, and so x
unfoldable pub turned : Bool → ℕ → ℕ → ℕ
turned flip t y = cond flip (t - 1 - y) y

-- `flip`: "A t × t tile flipped horizontally (columns reversed) and/or vertically (rows reversed)": `tile[sy * t + sx]`
unfoldable pub flipped : ℕ → Bool → Bool → List ℤ → List ℤ
flipped t flipH flipV tile = grid t (λ y x. get_or tile (turned flipV t y * t + turned flipH t x) (pos 0))

-- `FLIPS`: "(flip_h, flip_v) in the order they are tried"
pub record Flip : Type 0 where
  pub h : Bool
  pub v : Bool

unfoldable pub flips : List Flip
flips =
    record { h = false; v = false }
    ∷ record { h = true; v = false }
    ∷ record { h = false; v = true }
    ∷ record { h = true; v = true }
    ∷ []

-- `FLIPS[order]`
unfoldable pub flip_at : ℕ → Flip
unfolding flips
flip_at order = get_or flips order (record { h = false; v = false })

-- a tile flipped by the flip of an order
unfoldable pub turned_by : ℕ → ℕ → List ℤ → List ℤ
turned_by t order tile = flipped t (flip_at order).h (flip_at order).v tile

-- `==` on tiles
unfoldable pub same_tile : List ℤ → List ℤ → Bool
same_tile [] [] = true
same_tile [] (b ∷ m) = false
same_tile (a ∷ l) [] = false
same_tile (a ∷ l) (b ∷ m) = eq_z a b && same_tile l m

-- where the first element stands that p takes; the length where it takes none
unfoldable pub position : {A : Type 0} → (A → Bool) → List A → ℕ
position p [] = 0
position p (x ∷ l) = cond (p x) 0 (suc (position p l))

-- the first order in which tile, flipped, is u; 4 where there is none
unfoldable pub order_to : ℕ → List ℤ → List ℤ → ℕ
order_to t tile u = position (λ order. same_tile (turned_by t order tile) u) (range 0 4)

unfoldable pub is_flip_of : ℕ → List ℤ → List ℤ → Bool
is_flip_of t tile u = ltb (order_to t tile u) 4
