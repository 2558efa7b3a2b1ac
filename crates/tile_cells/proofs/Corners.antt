-- The cells of a sheet: how many there are, and where each lies. Assumes nothing.
use mathlib.Core.Path.{◌≡◌, ap}
use mathlib.Core.List.{List}
use Prim.Native.Nat.{ℕ, zero, suc, ◌+◌, ◌-◌, ◌*◌, ◌/◌, ◌%◌, ◌<◌, ◌≤◌, ◌^◌}
use native.Mathlib.Nat.{mul-le-mul, mul-le-mul_right, mod-lt, div-add-mod', div-lt_iff_lt-mul, not-suc-le-zero}
use native.Mathlib.Omega.{arith}
use lib.IntN.{ℤ, pos}
use lib.ListN.{length, get_or}
use Rattle.tile_cells.specs.Tile.{grid, turned, order_to}
use Rattle.tile_cells.specs.Cells.{Tiled, cell_count, cell_of, corner_of, order_of}
use Rattle.tile_cells.specs.Seen.{row_seen, tile_seen, tile_at, Lies}
use Rattle.tile_cells.proofs.Grids.{length-grid, grid-same}

less_one : (t w : ℕ) → 0 < t → (t - 1) * w + w ≡ t * w
less_one zero w h = absurd (not-suc-le-zero h)
less_one (suc t) w h = let e : suc t - 1 ≡ t = omega arith in rw e (omega arith)

-- a tile that stands by itself lies inside
pub alone-lies : (t : ℕ) → Lies (t * t) 0 t t
alone-lies zero = omega arith
alone-lies (suc t) = omega (arith, less_one (suc t) (suc t) (omega arith))

-- a factor of a number below a product is positive
pub right_positive : (a b c : ℕ) → c < a * b → 0 < b
right_positive a zero c h = absurd (omega arith)
right_positive a (suc b) c h = omega arith

pub length-cell : (w t : ℕ) (l : List ℤ) (c : ℕ) → length (cell_of w t l c) ≡ t * t
unfolding cell_of
length-cell w t l c = length-grid t _

pub cell-seen : (w t : ℕ) (l : List ℤ) (c : ℕ) → tile_at l (corner_of w t c) w t ≡ cell_of w t l c
unfolding tile_seen row_seen grid turned cell_of corner_of
cell-seen w t l c = grid-same t (λ y x. get_or l (c / (w / t) * t * w + c % (w / t) * t + y * w + x) (pos 0)) (λ y x. get_or l ((c / (w / t) * t + y) * w + c % (w / t) * t + x) (pos 0))
    (λ y x h k. ap (λ (p : ℕ). get_or l p (pos 0)) (omega arith))

-- the order of two cells, where they lie
pub order_is : (w t : ℕ) (l : List ℤ) (c f : ℕ) {r p q : ℕ} → p ≡ corner_of w t c → q ≡ corner_of w t f → r ≡ order_to t (tile_at l p w t) (tile_at l q w t) → r ≡ order_of w t l c f
unfolding order_of
order_is w t l c f a b e = rw (← cell-seen w t l c, ← cell-seen w t l f, ← a, ← b) e

module _ {w h t : ℕ} {l : List ℤ} (d : Tiled w h t l) where
  pub across : w / t * t ≡ w
  across = omega (arith, div-add-mod' w t, d.across)

  pub down : h / t * t ≡ h
  down = omega (arith, div-add-mod' h t, d.down)

  pub area : w * h ≤ 2 ^ 20
  area = mul-le-mul {n₂ = 1024} {m₂ = 1024} d.w-small d.h-small

  -- t × t indices a cell
  pub count-area : cell_count w h t * (t * t) ≡ w * h
  unfolding cell_count
  count-area = omega (arith, ap (λ (n : ℕ). n * (h / t * t)) across, ap (λ (n : ℕ). w * n) down)

  pub count_small : cell_count w h t ≤ w * h
  count_small =
      let one : 1 ≤ t * t = mul-le-mul {n₁ = 1} {m₁ = 1} d.side d.side in
      omega (arith, count-area, mul-le-mul {n₁ = cell_count w h t} {n₂ = cell_count w h t} (omega arith) one)

  module _ {c : ℕ} (b : c < cell_count w h t) where
    pub wide : 0 < w / t
    unfolding cell_count
    wide = right_positive (h / t) (w / t) c b

    pub fits : t ≤ w
    fits = omega (arith, across, mul-le-mul_right t wide)

    pub row : c / (w / t) * t + t ≤ h
    unfolding cell_count
    row = omega (arith, down, mul-le-mul_right t ((div-lt_iff_lt-mul wide).1 b))

    pub column : c % (w / t) * t + t ≤ w
    column = omega (arith, across, mul-le-mul_right t (mod-lt c wide))

    pub corner-lies : Lies (length l) (corner_of w t c) w t
    unfolding corner_of
    corner-lies = omega (arith, d.long, less_one t w d.side, column, mul-le-mul_right w row)

    pub corner-small : corner_of w t c < 2 ^ 20
    corner-small = omega (arith, corner-lies, area, d.long, d.side)
