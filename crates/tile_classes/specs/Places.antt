-- The numbers of the scratch: in the place of a cell its class and the order in which it is read; and the numbers to sort, a key and a cell each.
-- Definitions only. Assumes nothing.
use Rattle.std.specs.Prelude.{ℕ, ◌/◌, ◌%◌, ◌^◌}

unfoldable pub class_in : ℕ → ℕ
class_in v = v / 4

unfoldable pub order_in : ℕ → ℕ
order_in v = v % 4

unfoldable pub key_in : ℕ → ℕ
key_in v = v / 2 ^ 21

unfoldable pub cell_in : ℕ → ℕ
cell_in v = v % 2 ^ 21
