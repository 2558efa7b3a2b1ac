-- The first cell of each class found: the cells below c have their code, and the table has, at a class, one more than the first cell below c that
-- is of it. Definitions only. Assumes nothing.
use Rattle.std.specs.Prelude.{ℕ, ◌+◌, ◌<◌, ◌≤◌, ◌≡◌, List, ℤ, length, get_or}
use Rattle.tile_cells.specs.Cells.{order_of, first_cell, code_of}
use Rattle.tile_classes.specs.Places.{class_in}
use Rattle.tile_classes.specs.Ranks.{number_at}

module _ (w t : ℕ) (indices : List ℤ) where
  -- f is one more than the first cell of d, or 0 where that is not below c
  pub record FirstBelow (c d f : ℕ) : Type 0 where
    pub none : f ≡ 0 → c ≤ first_cell w t indices d
    pub some : 0 < f → f ≡ first_cell w t indices d + 1

  module _ (n : ℕ) where
    -- the cells from c on have one class exactly when they are flips of each other
    pub record Grouped (c : ℕ) (s : List ℕ) : Type 0 where
      pub room : n + n ≤ length s
      pub small : (d : ℕ) → c ≤ d → d < n → class_in (get_or s d 0) < n
      pub same : (d e : ℕ) → c ≤ d → d < n → c ≤ e → e < n → order_of w t indices d e < 4 → class_in (get_or s d 0) ≡ class_in (get_or s e 0)
      pub only : (d e : ℕ) → c ≤ d → d < n → c ≤ e → e < n → class_in (get_or s d 0) ≡ class_in (get_or s e 0) → order_of w t indices d e < 4

    pub record Entered (c : ℕ) (s : List ℕ) : Type 0 where
      pub grouped : Grouped c s
      pub found : (d : ℕ) → d < c → get_or s d 0 ≡ code_of w t indices d
      pub heads : (d : ℕ) → c ≤ d → d < n → FirstBelow c d (number_at n s (class_in (get_or s d 0)))
