-- The ranks of numbers in order: what each cell's class becomes. The scratch has n places for the cells, and then n numbers.
-- Definitions only. Assumes nothing.
use Rattle.std.specs.Prelude.{ℕ, zero, suc, ◌+◌, ◌<◌, ◌≤◌, ◌≡◌, cond, List, eqb, length, get_or}
use Rattle.tile_classes.specs.Places.{class_in, order_in, key_in, cell_in}

module _ (f : ℕ → ℕ) where
  -- 1 where f differs at i from what it is before it, else 0
  unfoldable pub fresh : ℕ → ℕ
  fresh zero = 0
  fresh (suc i) = cond (eqb (f i) (f (suc i))) 0 1

  -- how many of the first i are fresh
  unfoldable pub freshBelow : ℕ → ℕ
  freshBelow zero = 0
  freshBelow (suc i) = freshBelow i + fresh i

  -- the rank of i: equal where f is, one more where it is not
  abbrev pub rank : ℕ → ℕ
  rank i = freshBelow (suc i)

module _ (n : ℕ) (s : List ℕ) where
  abbrev pub number_at : ℕ → ℕ
  number_at i = get_or s (n + i) 0

  abbrev pub key_at : ℕ → ℕ
  key_at i = key_in (number_at i)

  abbrev pub cell_at : ℕ → ℕ
  cell_at i = cell_in (number_at i)

  -- the numbers are in order, each of a cell, and a cell has one key
  pub record Listed : Type 0 where
    pub room : n + n ≤ length s
    pub in_order : (i j : ℕ) → i ≤ j → j < n → key_at i ≤ key_at j
    pub inside : (i : ℕ) → i < n → cell_at i < n
    pub one_key : (i j : ℕ) → i < n → j < n → cell_at i ≡ cell_at j → key_at i ≡ key_at j

-- the first i numbers are written, and P holds of each; the places stay
pub record Written (n : ℕ) (P : ℕ → ℕ → Type 0) (s₀ s : List ℕ) (i : ℕ) : Type 0 where
  pub long : length s ≡ length s₀
  pub places : (c : ℕ) → c < n → get_or s c 0 ≡ get_or s₀ c 0
  pub numbers : (c : ℕ) → c < i → P c (number_at n s c)

-- the cells of the first i numbers have their rank as class, and the orders stay
pub record Ranked (n : ℕ) (s₀ s : List ℕ) (i : ℕ) : Type 0 where
  pub long : length s ≡ length s₀
  pub numbers : (j : ℕ) → number_at n s j ≡ number_at n s₀ j
  pub orders : (c : ℕ) → order_in (get_or s c 0) ≡ order_in (get_or s₀ c 0)
  pub ranks : (j : ℕ) → j < i → class_in (get_or s (cell_at n s₀ j) 0) ≡ rank (key_at n s₀) j
