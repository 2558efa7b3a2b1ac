-- The positions of a selection and the places of a sheet: where they lie, and that their keys rise. Assumes nothing.
use Prim.Native.Nat.{ℕ, zero, suc, ◌+◌, ◌*◌, ◌/◌, ◌^◌, ◌<◌, ◌≤◌}
use mathlib.Core.List.{map, flat_map}
use native.Mathlib.Omega.{arith}
use native.Mathlib.Nat.{div-lt_iff_lt-mul, mul_comm}
use Rattle.base.specs.Lists.{range, All}
use Rattle.base.proofs.Each.{all-mapped, all-flat, all-in-range}
use Rattle.selection_spans.specs.Positions.{Position, position, row, rows}
use Rattle.tool_shortest.proofs.Rising.{Rising, rising-append}

-- ---- a range
pub rising-range : (key : ℕ → ℕ) → ((i p : ℕ) → i < p → key i < key p) → (a n : ℕ) → Rising key (range a n)
unfolding Rising range
rising-range key less a zero = tt
rising-range key less a (suc n) = (all-in-range (λ p. key a < key p) (suc a) n (λ i p q. less a i (omega arith)), rising-range key less (suc a) n)

-- ---- positions in rows
pub rows_in : (P : Position → Type 0) (x w y n : ℕ) → ((i j : ℕ) → x ≤ i → i < x + w → y ≤ j → j < y + n → P (position j i)) → All P (rows x w y n)
unfolding row
rows_in P x w y n f =
    all-flat P (row x w) (range y n)
    (all-in-range (λ j. All P (row x w j)) y n (λ j p q. all-mapped P (position j) (range x w) (all-in-range (λ i. P (position j i)) x w (λ i r t. f i j r t p q))))

abbrev pub key_at : Position → ℕ
key_at p = p.y * 2 ^ 16 + p.x

rising-row : (y a n : ℕ) → Rising key_at (map (position y) (range a n))
unfolding Rising range
rising-row y a zero = tt
rising-row y a (suc n) =
    (all-mapped (λ p. key_at (position y a) < key_at p) (position y) (range (suc a) n) (all-in-range (λ i. key_at (position y a) < key_at (position y i)) (suc a) n (λ i p q. omega arith)), rising-row y (suc a) n)

pub rising-rows : (x w y n : ℕ) → x + w ≤ 2 ^ 16 → Rising key_at (rows x w y n)
unfolding Rising range flat_map row
rising-rows x w y zero h = tt
rising-rows x w y (suc n) h =
    rising-append key_at (row x w y) (rows x w (suc y) n) (rising-row y x w) (rising-rows x w (suc y) n h)
    (all-mapped (λ p. All (λ q. key_at p < key_at q) (rows x w (suc y) n)) (position y) (range x w)
    (all-in-range (λ i. All (λ q. key_at (position y i) < key_at q) (rows x w (suc y) n)) x w
    (λ i a b. rows_in (λ q. key_at (position y i) < key_at q) x w (suc y) n (λ k j c d e g. omega arith))))

-- ---- places in rows of w
pub row_below : (w : ℕ) → 0 < w → (h p : ℕ) → p < w * h → p / w < h
row_below w z h p q = (div-lt_iff_lt-mul {k = w} {x = p} {y = h} z).1 (rw (mul_comm h w) q)
