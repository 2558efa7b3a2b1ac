-- A line that spells bytes: written again they are its digits in upper case. Assumes nothing.
use mathlib.Core.Path.{◌≡◌, refl, sym, ◌∙◌}
use mathlib.Core.Bool.{Bool, true, false, cond}
use mathlib.Core.List.{List, [], ◌∷◌, map}
use mathlib.Core.Option as option
use mathlib.Core.Option.{Option}
use Prim.Native.Nat.{ℕ, ◌+◌, ◌*◌, ◌-◌, ◌/◌, ◌%◌, ◌≤◌, ◌<◌}
use native.Mathlib.Omega.{arith}
use borrow.Author.Tests.{lt-ltb, le-ltb, ltb-true, ltb-false, lt-leb}
use lib.Dec.{ltb, leb}
use Rattle.base.specs.Lists.{some}
use Rattle.base.proofs.Nowhere.{or-both}
use Rattle.panel_hex.specs.Hex.{hex_val, pair_val, prepend, unhex_of, upper_digit, hex_byte, hex_of}
use Rattle.panel_spelling.specs.OneSpelling.{upper_case}

-- ---- digits
digit_low : (d : ℕ) → d < 10 → upper_digit d ≡ 48 + d
unfolding upper_digit
digit_low d h = rw (lt-ltb d 10 h)

digit-high : (d : ℕ) → 10 ≤ d → upper_digit d ≡ 55 + d
unfolding upper_digit
digit-high d h = rw (le-ltb d 10 h)

case-low : (c : ℕ) → c < 97 → upper_case c ≡ c
unfolding upper_case
case-low c h = rw (lt-ltb c 97 h)

case-high : (c : ℕ) → 97 ≤ c → upper_case c ≡ c - 32
unfolding upper_case
case-high c h = rw (le-ltb c 97 h)

by-range : (c : ℕ) (s : Bool) → ltb c 48 ≡ s → (t : Bool) → ltb c 58 ≡ t → (u : Bool) → ltb c 65 ≡ u → (v : Bool) → ltb c 71 ≡ v → (w : Bool) → ltb c 97 ≡ w → (x : Bool) → ltb c 103 ≡ x
    → (d : ℕ) → d ≡ cond s 16 (cond t (c - 48) (cond u 16 (cond v (c - 55) (cond w 16 (cond x (c - 87) 16))))) → d < 16 → upper_digit d ≡ upper_case c
by-range c true a t b u e v f w g x h d q l = absurd (omega arith)
by-range c false a true b u e v f w g x h d q l =
    let lo = ltb-false c 48 a in
    let hi = ltb-true c 58 b in
    digit_low d (omega arith) ∙ sym (case-low c (omega arith) ∙ omega arith)
by-range c false a false b true e v f w g x h d q l = absurd (omega arith)
by-range c false a false b false e true f w g x h d q l =
    let lo = ltb-false c 65 e in
    let hi = ltb-true c 71 f in
    digit-high d (omega arith) ∙ sym (case-low c (omega arith) ∙ omega arith)
by-range c false a false b false e false f true g x h d q l = absurd (omega arith)
by-range c false a false b false e false f false g true h d q l =
    let lo = ltb-false c 97 g in
    let hi = ltb-true c 103 h in
    digit-high d (omega arith) ∙ sym (case-high c (omega arith) ∙ omega arith)
by-range c false a false b false e false f false g false h d q l = absurd (omega arith)

digit-again : (c : ℕ) → hex_val c < 16 → upper_digit (hex_val c) ≡ upper_case c
unfolding hex_val
digit-again c h = by-range c (ltb c 48) refl (ltb c 58) refl (ltb c 65) refl (ltb c 71) refl (ltb c 97) refl (ltb c 103) refl (hex_val c) refl h

-- ---- two digits that spell a byte
record Pair (a b v : ℕ) : Type 0 where
  high : hex_val a < 16
  low : hex_val b < 16
  value : v ≡ 16 * hex_val a + hex_val b

pair-of : (a b : ℕ) → pair_val a b < 256 → Pair a b (pair_val a b)
unfolding pair_val
pair-of a b h = go (ltb (hex_val a) 16) refl (ltb (hex_val b) 16) refl h
  where
    go : (s : Bool) → ltb (hex_val a) 16 ≡ s → (t : Bool) → ltb (hex_val b) 16 ≡ t → cond s (cond t (16 * hex_val a + hex_val b) 256) 256 < 256 → Pair a b (cond s (cond t (16 * hex_val a + hex_val b) 256) 256)
    go true p true q h = record { high = ltb-true (hex_val a) 16 p; low = ltb-true (hex_val b) 16 q; value = refl }
    go true p false q h = absurd (omega arith)
    go false p t q h = absurd (omega arith)

pair-again : (a b v : ℕ) → Pair a b v → hex_byte v ≡ upper_case a ∷ upper_case b ∷ []
unfolding hex_byte
pair-again a b v p =
    let l = p.low in
    let e = p.value in
    let x : v / 16 ≡ hex_val a = omega arith in
    let y : v % 16 ≡ hex_val b = omega arith in
    rw (x, y, digit-again a p.high, digit-again b p.low)

-- ---- a line that spells bytes: they are bytes, and written they are its digits in upper case
pub record Spells (line bs : List ℕ) : Type 0 where
  pub bytes : some (leb 256) bs ≡ false
  pub written : hex_of bs ≡ map upper_case line

some_same : {a b : List ℕ} → option.some a ≡ option.some b → a ≡ b
some_same e = cc

none-some : {X : Type 0} {b : List ℕ} → option.none ≡ option.some b → X
none-some e = let z : ◌≡◌ {A = ℕ} 0 1 = cc in absurd (omega arith)

spells-none : Spells [] []
unfolding some hex_of
spells-none = record { bytes = refl; written = refl }

spells-more : (a b v : ℕ) (line bs : List ℕ) → Pair a b v → v < 256 → Spells line bs → Spells (a ∷ b ∷ line) (v ∷ bs)
unfolding some hex_of
spells-more a b v line bs p h r = record { bytes = or-both (lt-leb 256 v h) r.bytes; written = rw (pair-again a b v p, r.written) }

prepended : (a b : ℕ) (line bs : List ℕ) (o : Option (List ℕ)) → ((more : List ℕ) → o ≡ option.some more → Spells line more) → pair_val a b < 256
    → prepend (pair_val a b ∷ []) o ≡ option.some bs → Spells (a ∷ b ∷ line) bs
unfolding prepend
prepended a b line bs option.none f h e = none-some e
prepended a b line bs (option.some more) f h e = rw (← some_same e) (spells-more a b (pair_val a b) line more (pair-of a b h) h (f more refl))

pub spells : (line : List ℕ) (bs : List ℕ) → unhex_of line ≡ option.some bs → Spells line bs
unfolding unhex_of
spells [] bs e = rw (← some_same e) spells-none
spells (a ∷ []) bs e = none-some e
spells (a ∷ b ∷ line) bs e = go (ltb (pair_val a b) 256) refl (unhex_of line) (λ more q. spells line more q) e
  where
    go : (t : Bool) → ltb (pair_val a b) 256 ≡ t → (o : Option (List ℕ)) → ((more : List ℕ) → o ≡ option.some more → Spells line more) → cond t (prepend (pair_val a b ∷ []) o) option.none ≡ option.some bs
        → Spells (a ∷ b ∷ line) bs
    go true q o f e = prepended a b line bs o f (ltb-true (pair_val a b) 256 q) e
    go false q o f e = none-some e
