-- Bytes as hexadecimal digits, in ASCII. Definitions only. Assumes nothing.
use Rattle.std.specs.Prelude.{ℕ, ◌+◌, ◌*◌, ◌-◌, ◌/◌, ◌%◌, cond, List, [], ◌∷◌, ◌++◌, ltb, ℤ, pos, negsuc}
use Rattle.std.proofs.Math.Option.{Option, none, some}

-- ---- read: "hexadecimal lines, either case"

-- the value of a digit: 0 to 9 are 48 to 57, A to F are 65 to 70, a to f are 97 to 102; 16 where it is none
unfoldable pub hex_val : ℕ → ℕ
hex_val c =
    cond (ltb c 48) 16
    (cond (ltb c 58) (c - 48)
    (cond (ltb c 65) 16
    (cond (ltb c 71) (c - 55)
    (cond (ltb c 97) 16
    (cond (ltb c 103) (c - 87) 16)))))

-- the byte that two digits spell, 256 where one is none
unfoldable pub pair_val : ℕ → ℕ → ℕ
pair_val a b = cond (ltb (hex_val a) 16) (cond (ltb (hex_val b) 16) (16 * hex_val a + hex_val b) 256) 256

-- bytes in front of those that were read
unfoldable pub prepend : List ℕ → Option (List ℕ) → Option (List ℕ)
prepend p none = none
prepend p (some bs) = some (p ++ bs)

-- the bytes that a line spells, two digits each: none for "odd or other digits"
unfoldable pub unhex_of : List ℕ → Option (List ℕ)
unhex_of [] = some []
unhex_of (a ∷ []) = none
unhex_of (a ∷ b ∷ s) = cond (ltb (pair_val a b) 256) (prepend (pair_val a b ∷ []) (unhex_of s)) none

-- ---- written: "upper-case hexadecimal"

unfoldable pub upper_digit : ℕ → ℕ
upper_digit d = cond (ltb d 10) (48 + d) (55 + d)

unfoldable pub hex_byte : ℕ → List ℕ
hex_byte b = upper_digit (b / 16) ∷ upper_digit (b % 16) ∷ []

unfoldable pub hex_of : List ℕ → List ℕ
hex_of [] = []
hex_of (b ∷ bs) = hex_byte b ++ hex_of bs

-- an index as a byte: "FF is -1"
unfoldable pub byte_of : ℤ → ℕ
byte_of (pos n) = n % 256
byte_of (negsuc n) = 255
