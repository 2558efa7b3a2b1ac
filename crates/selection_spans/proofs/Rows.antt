-- The positions of a row, and of rows, as the loops write them: one more at the end, and how many. Assumes nothing.
use mathlib.Core.Path.{◌≡◌, refl, sym, ap, ◌∙◌}
use mathlib.Core.List.{List, [], ◌∷◌, ◌++◌, map-append}
use Prim.Native.Nat.{ℕ, ◌+◌, ◌-◌, ◌*◌, ◌<◌, ◌≤◌}
use native.Mathlib.Nat.{mul_comm, mul-suc, mul-le-mul_left}
use native.Mathlib.Omega.{arith}
use borrow.Rule.Slice.PartMut.{put_mid}
use lib.IntN.{ℤ, pos}
use lib.ListN.{length, take, drop, set, length-map}
use Rattle.base.specs.Lists.{range, over}
use Rattle.base.proofs.Over.{over-pair, over-lent}
use Rattle.base.proofs.Collect.{length-range, range-next, flat_map-append, flat_map-one, length-flat_map}
use Rattle.selection_spans.specs.Positions.{Position, position, row, rows, coordinates, flat}

length-flat : (ps : List Position) → length (flat ps) ≡ 2 * length ps
unfolding flat
length-flat ps = length-flat_map coordinates 2 (λ p. refl) ps ∙ omega arith

flat_append : (ps qs : List Position) → flat (ps ++ qs) ≡ flat ps ++ flat qs
unfolding flat
flat_append ps qs = flat_map-append coordinates ps qs

-- ---- a row
pub length-row : (x w y : ℕ) → length (row x w y) ≡ w
unfolding row
length-row x w y = length-map (range x w) (position y) ∙ length-range x w

row_next : (x i y : ℕ) → row x (i + 1) y ≡ row x i y ++ (position y (x + i) ∷ [])
unfolding row
row_next x i y = rw (range-next x i, map-append)

flat-row-next : (x i y : ℕ) → flat (row x (i + 1) y) ≡ flat (row x i y) ++ (pos (x + i) ∷ pos y ∷ [])
unfolding flat
flat-row-next x i y = ap flat (row_next x i y) ∙ flat_append (row x i y) _ ∙ ap (λ l. flat (row x i y) ++ l) (flat_map-one coordinates (position y (x + i)))

-- the position after the first i
pub row_step : (x i y : ℕ) (l : List ℤ) → 2 * i + 1 < length l
    → set (set (over (flat (row x i y)) l) (2 * i) (pos (x + i))) (2 * i + 1) (pos y) ≡ over (flat (row x (i + 1) y)) l
row_step x i y l h = over-pair (flat (row x i y)) l (2 * i) (pos (x + i)) (pos y) (length-flat (row x i y) ∙ ap (λ n. 2 * n) (length-row x i y)) h ∙ ap (λ f. over f l) (sym (flat-row-next x i y))

-- ---- the first n rows
pub length-rows : (x w y n : ℕ) → length (rows x w y n) ≡ n * w
length-rows x w y n = length-flat_map (row x w) w (length-row x w) (range y n) ∙ ap (λ k. k * w) (length-range y n)

flat-rows-next : (x w y j : ℕ) → flat (rows x w y (j + 1)) ≡ flat (rows x w y j) ++ flat (row x w (y + j))
flat-rows-next x w y j = ap flat (rw (range-next y j, flat_map-append, flat_map-one)) ∙ flat_append (rows x w y j) (row x w (y + j))

-- the row after the first j, written to what lies behind them
pub rows_step : (x w y j : ℕ) (l s part : List ℤ) → s ≡ over (flat (rows x w y j)) l → part ≡ over (flat (row x w (y + j))) (take (length s - 2 * (j * w)) (drop (2 * (j * w)) s))
    → put_mid (2 * (j * w)) (length s - 2 * (j * w)) s part ≡ over (flat (rows x w y (j + 1))) l
rows_step x w y j l s part p q =
    over-lent (flat (rows x w y j)) (flat (row x w (y + j))) l s part (2 * (j * w)) (length-flat (rows x w y j) ∙ ap (λ n. 2 * n) (length-rows x w y j)) p q
    ∙ ap (λ f. over f l) (sym (flat-rows-next x w y j))

-- a row before the last has room behind those before it
pub room : {j h : ℕ} (w : ℕ) → j < h → j * w + w ≤ w * h
room {j} {h} w k = omega (arith, mul-le-mul_left w k, mul-suc w j, mul_comm w j)
