-- Which entry is seen at a place, as a number: 0 for none, and from 1 on those of the layers, 255 each, the lowest layer's
-- first. Definitions only. Assumes nothing.
use Rattle.std.specs.Prelude.{◌≡◌, List, [], ◌∷◌, ℕ, zero, suc, ◌+◌, ◌*◌, ◌<◌, ℤ, pos, negsuc, length, get_or}
use Rattle.base.specs.Triples.{rgb_at}
use Rattle.journal_record.specs.Bytes.{le}

-- an index of the layer whose first entry has the number `low`, over what is seen below
unfoldable pub slot_over : ℤ → ℕ → ℕ → ℕ
slot_over (pos m) low below = m + low
slot_over (negsuc m) low below = below

-- what is seen of the first layers alone, so many, n places each
unfoldable pub slot_up_to : ℕ → List ℤ → ℕ → ℕ → ℕ
slot_up_to n indices zero p = 0
slot_up_to n indices (suc i) p = slot_over (get_or indices (n * i + p) (pos 0)) (255 * i + 1) (slot_up_to n indices i p)

-- slots with a layer's indices over them
pub record SlotsOver (low : ℕ) (indices : List ℤ) (before after : List ℕ) : Type 0 where
  pub long : length after ≡ length before
  pub slot : (j : ℕ) → j < length indices → get_or after j 0 ≡ slot_over (get_or indices j (pos 0)) low (get_or before j 0)

-- the slots of m places from `at` on, of the first i layers
pub record Slotted (n : ℕ) (indices : List ℤ) (i at m : ℕ) (slots : List ℕ) : Type 0 where
  pub long : length slots ≡ 1024
  pub slot : (j : ℕ) → j < m → get_or slots j 0 ≡ slot_up_to n indices i (at + j)

-- a table of words: of none, and of the first k entries of all palettes
pub record Table (k : ℕ) (palettes table : List ℕ) : Type 0 where
  pub long : length table ≡ 2041
  pub clear : get_or table 0 0 ≡ 0
  pub entry : (j : ℕ) → j < k → let c = rgb_at palettes j in le 4 (get_or table (j + 1) 0) ≡ c.r ∷ c.g ∷ c.b ∷ 255 ∷ []

-- the bytes of the word that a slot has in a table
unfoldable pub word_at : List ℕ → List ℕ → ℕ → List ℕ
word_at table slots j = le 4 (get_or table (get_or slots j 0) 0)

unfoldable pub place_word : ℕ → List ℤ → List ℕ → ℕ → ℕ → ℕ → List ℕ
place_word n indices table i at j = le 4 (get_or table (slot_up_to n indices i (at + j)) 0)
