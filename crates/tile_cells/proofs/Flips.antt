-- The two flips of an order by its two bits. Assumes nothing.
use Prim.Native.Nat.{ℕ, zero, suc, ◌%◌, ◌<◌}
use mathlib.Core.Path.{◌≡◌, refl}
use native.Mathlib.Omega.{arith}
use lib.Dec.{eqb, ltb}
use Rattle.tile_cells.specs.Tile.{flips, flip_at}

h-bit : (o : ℕ) → o < 4 → eqb (o % 2) 1 ≡ (flip_at o).h
unfolding flips flip_at
h-bit zero l = refl
h-bit (suc zero) l = refl
h-bit (suc (suc zero)) l = refl
h-bit (suc (suc (suc zero))) l = refl
h-bit (suc (suc (suc (suc o)))) l = absurd (omega arith)

v-bit : (o : ℕ) → o < 4 → ltb 1 o ≡ (flip_at o).v
unfolding flips flip_at
v-bit zero l = refl
v-bit (suc zero) l = refl
v-bit (suc (suc zero)) l = refl
v-bit (suc (suc (suc zero))) l = refl
v-bit (suc (suc (suc (suc o)))) l = absurd (omega arith)

pub flip-h : (code : ℕ) → eqb (code % 2) 1 ≡ (flip_at (code % 4)).h
flip-h code = let e : code % 2 ≡ code % 4 % 2 = omega arith in rw e (h-bit (code % 4) (omega arith))

pub flip-v : (code : ℕ) → ltb 1 (code % 4) ≡ (flip_at (code % 4)).v
flip-v code = v-bit (code % 4) (omega arith)
