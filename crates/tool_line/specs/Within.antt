-- Whole numbers in order, for the points of a line that lie between others. Definitions only. Assumes nothing.
use Rattle.std.specs.Prelude.{◌≡◌, ℕ, ℤ, pos, ◌+ℤ◌}

-- a is at most b: b is so many places further
pub record Upto (a b : ℤ) : Type 0 where
  pub places : ℕ
  pub is : b ≡ a +ℤ pos places

-- from `low` to `high`, both included
pub record Spanned (low high z : ℤ) : Type 0 where
  pub from : Upto low z
  pub upto : Upto z high
