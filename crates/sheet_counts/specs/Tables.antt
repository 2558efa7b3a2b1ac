-- The table that the loop over the indices fills. Definitions only. Assumes nothing.
use Rattle.std.specs.Prelude.{List, ℕ, ◌+◌, ◌<◌, ℤ, pos, negsuc, length, get_or, set}

-- one more at a pixel's entry, and the same table for a transparent one
unfoldable pub tally : List ℕ → ℤ → List ℕ
tally t (pos n) = set t n (get_or t n 0 + 1)
tally t (negsuc n) = t

-- the entry is in the table, and its count fits 32 bits with one more
unfoldable pub Room : List ℕ → ℤ → Type 0
Room t (pos n) = (n < length t) × (get_or t n 0 < 4294967295)
Room t (negsuc n) = Unit
