-- The front of a buffer that holds a list, or is written on. Definitions only. Assumes nothing.
use Rattle.std.specs.Prelude.{ℕ, ◌≤◌, ◌≡◌, List, ◌++◌, length, take, drop}

-- the first r numbers of a buffer are a list, and r is its length
pub record Front (l : List ℕ) (buffer : List ℕ) (r : ℕ) : Type 0 where
  pub front : take r buffer ≡ l
  pub count : length l ≡ r

-- l after some numbers were put at m of l₀, with r the next place: from `end` on it is as it was
pub record Put (l₀ : List ℕ) (m : ℕ) (put : List ℕ) (end : ℕ) (l : List ℕ) (r : ℕ) : Type 0 where
  pub front : take r l ≡ take m l₀ ++ put
  pub most : r ≤ end
  pub behind : drop end l ≡ drop end l₀
