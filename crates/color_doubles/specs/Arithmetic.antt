-- Doubles as the source writes them: decimal literals, and the four operations, each rounded once. Definitions only. Assumes nothing.
use Rattle.std.specs.Prelude.{ℕ, ◌^◌, false, Float}
use Rattle.std.specs.Float.{binary64}
use Rattle.std.specs.Float.Ieee.{round, add, sub, mul, div}

-- the double nearest to n / d
abbrev pub fraction : ℕ → ℕ → Float
fraction n d = round binary64 false n d

-- a literal of so many decimals, the double nearest to it: 0.412453 is `decimal 412453 6`
unfoldable pub decimal : ℕ → ℕ → Float
decimal n places = fraction n (10 ^ places)

infixl 65 ◌⊕◌ ◌⊖◌
infixl 75 ◌⊗◌ ◌⊘◌
abbrev pub ◌⊕◌ : Float → Float → Float
◌⊕◌ x y = add binary64 x y

abbrev pub ◌⊖◌ : Float → Float → Float
◌⊖◌ x y = sub binary64 x y

abbrev pub ◌⊗◌ : Float → Float → Float
◌⊗◌ x y = mul binary64 x y

abbrev pub ◌⊘◌ : Float → Float → Float
◌⊘◌ x y = div binary64 x y
