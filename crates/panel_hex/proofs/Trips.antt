-- What was written is read again: the laws between digits and bytes. Assumes nothing.
use Prim.Native.Nat.{ℕ, ◌+◌, ◌/◌, ◌%◌, ◌≤◌, ◌<◌}
use mathlib.Core.Path.{◌≡◌, refl}
use mathlib.Core.Bool.{Bool, true, false}
use mathlib.Core.List.{List, [], ◌∷◌}
use mathlib.Core.Option as option
use native.Mathlib.Omega.{arith}
use borrow.Author.Tests.{lt-ltb, le-ltb, ltb-true, ltb-false, leb-false}
use lib.Dec.{ltb, leb}
use Rattle.base.specs.Lists.{some}
use Rattle.base.proofs.Nowhere.{first-not, rest-not}
use Rattle.panel_hex.specs.Hex.{hex_val, pair_val, upper_digit, prepend, unhex_of, hex_byte, hex_of}

pub digit-trip : (d : ℕ) → d < 16 → hex_val (upper_digit d) ≡ d
unfolding hex_val upper_digit
digit-trip d h = by (ltb d 10) refl
  where
    by : (t : Bool) → ltb d 10 ≡ t → hex_val (upper_digit d) ≡ d
    by true e =
        let s : d < 10 = ltb-true d 10 e in
        rw (e, le-ltb (48 + d) 48 (omega arith), lt-ltb (48 + d) 58 (omega arith)) (omega arith)
    by false e =
        let s : 10 ≤ d = ltb-false d 10 e in
        rw (e, le-ltb (55 + d) 48 (omega arith), le-ltb (55 + d) 58 (omega arith), le-ltb (55 + d) 65 (omega arith), lt-ltb (55 + d) 71 (omega arith)) (omega arith)

pub pair-trip : (b : ℕ) → b < 256 → pair_val (upper_digit (b / 16)) (upper_digit (b % 16)) ≡ b
unfolding pair_val
pair-trip b h =
    let p : b / 16 < 16 = omega arith in
    let q : b % 16 < 16 = omega arith in
    rw (digit-trip (b / 16) p, digit-trip (b % 16) q, lt-ltb (b / 16) 16 p, lt-ltb (b % 16) 16 q) (omega arith)

-- bytes that were written are read
pub hex-trip : (bs : List ℕ) → some (leb 256) bs ≡ false → unhex_of (hex_of bs) ≡ option.some bs
unfolding hex_of hex_byte unhex_of prepend
hex-trip [] h = refl
hex-trip (b ∷ bs) h =
    let small : b < 256 = leb-false 256 b (first-not (leb 256) b bs h) in
    rw (pair-trip b small, lt-ltb b 256 small, hex-trip bs (rest-not (leb 256) b bs h))

-- so the same digits are the same bytes
pub hex-same : (a b : List ℕ) → some (leb 256) a ≡ false → some (leb 256) b ≡ false → hex_of a ≡ hex_of b → a ≡ b
hex-same a b ha hb e =
    let p : unhex_of (hex_of a) ≡ option.some a = hex-trip a ha in
    let q : unhex_of (hex_of b) ≡ option.some b = hex-trip b hb in
    cc
