-- The table by which `first_cells` finds a cell's first cell: in the scratch, for each of the numbers that flips keep, a chain of first cells.
-- Definitions only. Assumes nothing.
use Rattle.std.specs.Prelude.{ℕ, zero, suc, ◌/◌, ◌%◌, ◌^◌, ◌<◌, ◌≡◌, ◌&&◌, cond, List, eqb, ℤ, length, get_or}
use Rattle.tile_cells.specs.Cells.{cell_of, first_cell, code_of}
use Rattle.tile_cells.specs.Key.{key_of, scaled}

-- ---- a place of the scratch has three numbers: what is found for the cell, the head of a chain, and the next of the chain that the cell is on.
-- A chain counts cells from 1 on; 0 is its end.
unfoldable pub found_in : ℕ → ℕ
found_in v = v % 2 ^ 22

unfoldable pub head_in : ℕ → ℕ
head_in v = v / 2 ^ 22 % 2 ^ 21

unfoldable pub next_in : ℕ → ℕ
next_in v = v / 2 ^ 43

pub record Holds (v found head next : ℕ) : Type 0 where
  pub found-is : found_in v ≡ found
  pub head-is : head_in v ≡ head
  pub next-is : next_in v ≡ next

-- ---- the chains, once the cells below c are entered
-- the number of a cell's tile, and its chain, one of n
unfoldable pub chain_of : ℕ → ℕ → List ℤ → ℕ → ℕ
chain_of w t indices c = key_of t (cell_of w t indices c)

module _ (w t : ℕ) (indices : List ℤ) (n : ℕ) where
  unfoldable pub bucketOf : ℕ → ℕ
  bucketOf c = scaled (chain_of w t indices c) n

  -- one more than the last first cell below c that is on chain b; 0 where there is none
  unfoldable pub lastOn : ℕ → ℕ → ℕ
  lastOn b zero = 0
  lastOn b (suc c) = cond (eqb (first_cell w t indices c) c && eqb (bucketOf c) b) (suc c) (lastOn b c)

  pub record Chained (c : ℕ) (s : List ℕ) : Type 0 where
    pub long : length s ≡ n
    pub found : (d : ℕ) → d < c → found_in (get_or s d 0) ≡ code_of w t indices d
    pub heads : (b : ℕ) → b < n → head_in (get_or s b 0) ≡ lastOn b c
    pub nexts : (d : ℕ) → d < c → first_cell w t indices d ≡ d → next_in (get_or s d 0) ≡ lastOn (bucketOf d) d
