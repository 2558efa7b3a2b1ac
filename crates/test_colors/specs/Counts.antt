-- What the contracts say of a count. Definitions only. Assumes nothing.
use Rattle.std.specs.Prelude.{ℕ, ◌≤◌, ◌≡◌}
use Rattle.test_colors.specs.declared.compare.Tally.{Tally}

-- the most rows that are counted: the sums then fit
abbrev pub max_rows : ℕ
max_rows = 1000

-- t is the count of n rows: no more than n agree, and no more than n are near
pub record Counts (n : ℕ) (t : Tally) : Type 0 where
  pub rows : t.rows ≡ n
  pub agree : t.agree ≤ n
  pub near : t.near ≤ n
