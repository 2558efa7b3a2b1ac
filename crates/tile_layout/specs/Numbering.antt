-- First cells numbered, as the loops do it: from a list with a number a cell, its first cell times 4 and the order. Definitions only. Assumes nothing.
use Rattle.std.specs.Prelude.{ℕ, zero, suc, ◌+◌, ◌*◌, ◌/◌, ◌%◌, ◌≤◌, ◌<◌, ◌≡◌, cond, List, [], ◌∷◌, eqb, length, get_or}

-- a first cell stands no later, and is its own
pub record Coded (s : List ℕ) : Type 0 where
  pub low : (c : ℕ) → c < length s → get_or s c 0 / 4 ≤ c
  pub own : (c : ℕ) → c < length s → get_or s (get_or s c 0 / 4) 0 ≡ get_or s c 0 / 4 * 4

-- how many of the cells below c are first cells
unfoldable pub own_below : List ℕ → ℕ → ℕ
own_below s zero = 0
own_below s (suc c) = cond (eqb (get_or s c 0 / 4) c) (suc (own_below s c)) (own_below s c)

-- as many as stand before a cell's first cell, times 4, and the order
unfoldable pub numbered : List ℕ → ℕ → ℕ
numbered s c = own_below s (get_or s c 0 / 4) * 4 + get_or s c 0 % 4

-- tile, flip h, flip v of a number with a tile and an order
unfoldable pub flat_id : ℕ → List ℕ
flat_id v = v / 4 ∷ v % 2 ∷ v % 4 / 2 ∷ []
