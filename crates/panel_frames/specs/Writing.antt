-- What `panel` prints: document 01, "Program `panel`". Definitions only. Assumes nothing.
use Rattle.std.specs.Prelude.{ℕ, Bool, List, [], ◌∷◌, ◌++◌, map, ℤ}
use Rattle.sheet.specs.Document.{mark}
use Rattle.journal_record.specs.Bytes.{le}
use Rattle.panel_hex.specs.Hex.{hex_of, byte_of}

-- "answer (00 done, FF still, else number), position (2), dirty, k"
unfoldable pub head_of : ℕ → ℕ → Bool → ℕ → List ℕ
head_of answer position dirty k = answer ∷ le 2 position ++ (mark dirty ∷ le 1 k)

-- "It prints, upper-case hexadecimal: answer .., position (2), dirty, k, indices", and a newline
unfoldable pub line_of : ℕ → ℕ → Bool → ℕ → List ℤ → List ℕ
line_of answer position dirty k indices = hex_of (head_of answer position dirty k ++ map byte_of indices) ++ (10 ∷ [])

-- "prints the number only"
unfoldable pub number_line : ℕ → List ℕ
number_line n = hex_of (n ∷ []) ++ (10 ∷ [])
